-- Where nothing was generalised, what can be solved has a generic solution: the variables of its values are the parameters in scope.
use Rattle.std.proofs.Common.{◌≡◌, ◌<◌, ◌≤◌, ◌||◌, ℕ, zero, suc, max, Bool, true, false, nat_eq, if◌then◌else◌, List, [], ◌∷◌, refl, sym, ap, subst, ◌∙◌, arith}
use Rattle.std.proofs.lemmas.Bool.{eqb-true, eq-eqb, eqb-false, ltb-true, and_parts, and_from}
use Rattle.ty_core.specs.Types.{Typ, Typs, var, con, none, more}
use Rattle.ty_core.specs.declared.mark.Mark.{Mark}
use Rattle.ty_core.specs.declared.mark.Mark.TheVariants.{Any, Equality}
use Rattle.ty_core.specs.declared.scheme.Quantified.{Quantified}
use Rattle.ty_table.specs.TypeAt.{top}
use Rattle.ty_instance.specs.of_ty_solve.Substitution.{Entry, Solves, is_below, are_below}
use Rattle.ty_instance.specs.of_ty_solve.Limits.{IsOver, IsSolvableOver}
use Rattle.ty_instance.specs.of_ty_solve.declared.limit.Limit.{Limit}
use Rattle.ty_instance.proofs.of_ty_solve.Tops.{top-below}
use Rattle.prog_tree.specs.of_ir_poly.Types.{in_scope, admits_in, is_equality, over, all_over}
use Rattle.elab_state.specs.States.{made, said_in, limit_in, general_in}
use Rattle.elab_state.specs.Generic.{Generic, GenericSolution}
use Rattle.elab_state.specs.declared.state.State.{State}

abbrev mark_if : Bool → Mark
mark_if true = Equality
mark_if false = Any

-- the variables below n, those that admit equality with its mark
abbrev first : (ℕ → Bool) → ℕ → List Quantified
first m zero = []
first m (suc n) = record { variable = n; mark = mark_if (m n) } ∷ first m n

in-first : (m : ℕ → Bool) (n v : ℕ) → v < n → in_scope (first m n) v ≡ true
in-first m zero v h = absurd (omega arith)
in-first m (suc n) v h = by (nat_eq n v) refl (in-first m n v)
  where
    by : (b : Bool) → nat_eq n v ≡ b → (v < n → in_scope (first m n) v ≡ true) → (b || in_scope (first m n) v) ≡ true
    by true e f = refl
    by false e f = let ne = eqb-false n v e in f (omega arith)

admits-first : (m : ℕ → Bool) (n v : ℕ) → in_scope (first m n) v ≡ true → m v ≡ admits_in (first m n) v
admits-first m zero v h = cc
admits-first m (suc n) v h = by (nat_eq n v) refl h (admits-first m n v)
  where
    as_marked : (b : Bool) → b ≡ is_equality (mark_if b)
    as_marked true = refl
    as_marked false = refl

    by : (b : Bool) → nat_eq n v ≡ b → (b || in_scope (first m n) v) ≡ true → (in_scope (first m n) v ≡ true → m v ≡ admits_in (first m n) v)
        → m v ≡ (if b then is_equality (mark_if (m n)) else admits_in (first m n) v)
    by true e h f = ap m (sym (eqb-true n v e)) ∙ as_marked (m n)
    by false e h f = f h

mutual
  over-first : (m : ℕ → Bool) (n : ℕ) (t : Typ) → is_below n t ≡ true → over (first m n) t ≡ true
  over-first m n (var v) h = in-first m n v (ltb-true v n h)
  over-first m n (con c ts) h = all-first m n ts h

  all-first : (m : ℕ → Bool) (n : ℕ) (ts : Typs) → are_below n ts ≡ true → all_over (first m n) ts ≡ true
  all-first m n none h = refl
  all-first m n (more t ts) h =
      let p = and_parts (is_below n t) (are_below n ts) h in
      and_from (over (first m n) t) (all_over (first m n) ts) (over-first m n t p.0) (all-first m n ts p.1)

-- one more than the highest variable of the first n values
abbrev highest : (ℕ → Typ) → ℕ → ℕ
highest f zero = 0
highest f (suc n) = max (top (f n)) (highest f n)

high-enough : (f : ℕ → Typ) (n v : ℕ) → v < n → top (f v) ≤ highest f n
high-enough f zero v h = absurd (omega arith)
high-enough f (suc n) v h = by (nat_eq n v) refl (high-enough f n v)
  where
    by : (b : Bool) → nat_eq n v ≡ b → (v < n → top (f v) ≤ highest f n) → top (f v) ≤ max (top (f n)) (highest f n)
    by true e k = let s = ap (λ x. top (f x)) (eqb-true n v e) in omega arith
    by false e k = let ne = eqb-false n v e in let a = k (omega arith) in omega arith

generic : (n : ℕ) (s : ℕ → Entry) (b : ℕ → Limit) (m : ℕ → Bool) (f : ℕ → Typ) → Solves m f s → IsOver b f → Generic n s b [] (λ l. first m (highest f n)) f
generic n s b m f h k = record {
  equality = m;
  solves = h;
  names = λ v lt. k v;
  within = λ v lt d. over-first m (highest f n) (f v) (top-below (highest f n) (f v) (high-enough f n v lt));
  itself = λ v i. cc;
  marked = λ v i. cc;
  nested = λ l v i. i;
  admitted = λ l v i. admits-first m (highest f n) v i;
  apart = λ l v i. refl;
}

pub solution : (S : State) → general_in S ≡ [] → IsSolvableOver (said_in S) (limit_in S) → GenericSolution S
solution S e h =
    let m = h.0 in let f = h.1 in let x = h.2 in let y = h.3 in
    record {
      parameters = λ l. first m (highest f (made S));
      values = f;
      generic = subst (λ qs. Generic (made S) (said_in S) (limit_in S) qs (λ l. first m (highest f (made S))) f) (sym e)
          (generic (made S) (said_in S) (limit_in S) m f x y);
    }
