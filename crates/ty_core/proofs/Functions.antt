-- Type names as functions.
use Rattle.std.proofs.Common.{◌≡◌, ℕ, suc, ◌+◌, Some, None, refl, sym, ap, ◌∙◌, arith}
use Rattle.std.specs.Prelude.{unwrap_or, cond}
use Rattle.std.proofs.lemmas.Bool.{eq-eqb}
use Rattle.ty_core.specs.Types.{Typ, var, con, Typs, none, more, name}
use Rattle.ty_core.specs.Statics.{replace_all, argument, count, variables}
use Rattle.ty_core.specs.Laws.{NamesGiveTheirTypes}

-- the variables from k on become ts, where f gives them its types
replace-variables : (f : ℕ → Typ) (k : ℕ) (ts : Typs) → ((j : ℕ) → f (k + j) ≡ unwrap_or (argument ts j) (var (k + j))) → replace_all f (variables k (count ts)) ≡ ts
replace-variables f k none h = refl
replace-variables f k (more t ts) h = ap (λ u. more u (replace_all f (variables (suc k) (count ts)))) (ap f (omega arith) ∙ h 0) ∙ ap (more t) (replace-variables f (suc k) ts (λ j. ap f (omega arith) ∙ h (suc j) ∙ ap (λ i. unwrap_or (argument ts j) (var i)) (omega arith)))

pub names-give-their-types : NamesGiveTheirTypes
names-give-their-types n ts e = ap (λ b. cond b (Some (con (name n) (replace_all (λ v. unwrap_or (argument ts v) (var v)) (variables 0 n.arity)))) None) (eq-eqb (count ts) n.arity e) ∙ ap (λ a. Some (con (name n) (replace_all (λ v. unwrap_or (argument ts v) (var v)) (variables 0 a)))) (sym e) ∙ ap (λ us. Some (con (name n) us)) (replace-variables (λ v. unwrap_or (argument ts v) (var v)) 0 ts (λ j. ap (λ i. unwrap_or (argument ts i) (var (0 + j))) (omega arith)))
