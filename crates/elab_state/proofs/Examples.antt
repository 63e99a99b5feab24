-- A generic solution by computation: `val id = fn x => x` beside a number.
use Rattle.std.proofs.Common.{◌≡◌, ◌<◌, ◌⊎◌, inl, inr, ℕ, zero, suc, true, false, nat_eq, if◌then◌else◌, List, [], ◌∷◌, ◌++◌, Some, None, refl, sym, ap, subst, ◌∙◌, arith}
use Rattle.std.proofs.lemmas.Bool.{eqb-true, lt-ltb}
use Rattle.ty_core.specs.Types.{Typ, var, con, none, name}
use Rattle.ty_core.specs.declared.mark.Mark.TheVariants.{Any}
use Rattle.ty_core.specs.declared.scheme.Quantified.{Quantified}
use Rattle.ty_instance.specs.of_ty_solve.Substitution.{Entry, Meets, Solves}
use Rattle.ty_instance.specs.of_ty_solve.SlotsOf.{seen}
use Rattle.ty_instance.specs.of_ty_solve.Limits.{Over, limit_at}
use Rattle.ty_instance.specs.of_ty_solve.declared.limit.Limit.{Limit}
use Rattle.ty_instance.specs.of_ty_solve.declared.subst.Slot.{Slot}
use Rattle.ty_instance.specs.of_ty_solve.declared.subst.Slot.TheVariants.{Open, Full}
use Rattle.prog_tree.specs.of_ir_poly.Types.{int_name, function_type, over, in_scope, admits_in}
use Rattle.elab_state.specs.Readings.{type_of}
use Rattle.elab_state.specs.States.{dead_level}
use Rattle.elab_state.specs.Generic.{Generic}
use Rattle.elab_state.specs.Generalising.{inside}
use Rattle.elab_state.proofs.Typed.{either}

abbrev int : Typ
int = con (name int_name) none

-- the types that were made: that of x, that of id, the number's, and int
abbrev types : List Typ
types = var 0 ∷ function_type (var 0) (var 0) ∷ var 1 ∷ var 2 ∷ int ∷ []

-- the variable of x is open; that of id stands for functions from it to itself, and the number's for int
abbrev slots : List Slot
slots = Open Any ∷ Full 1 ∷ Full 4 ∷ []

-- the first two belong to the declaration, and are done with where it has ended
abbrev before : List Limit
before = record { names = 8; level = 1 } ∷ record { names = 8; level = 1 } ∷ record { names = 8; level = 0 } ∷ []

abbrev after : List Limit
after = record { names = 8; level = dead_level } ∷ record { names = 8; level = dead_level } ∷ record { names = 8; level = 0 } ∷ []

abbrev general : List Quantified
general = record { variable = 0; mark = Any } ∷ []

abbrev none_in_scope : ℕ → List Quantified
none_in_scope l = []

abbrev values : ℕ → Typ
values zero = var 0
values (suc zero) = function_type (var 0) (var 0)
values (suc (suc zero)) = int
values (suc (suc (suc v))) = var 0

solves : Solves (λ v. false) values (seen types slots)
solves zero = tt
solves (suc zero) = refl
solves (suc (suc zero)) = refl
solves (suc (suc (suc v))) = tt

over_names : (v : ℕ) → v < 3 → Over 8 (values v)
over_names zero h = tt
over_names (suc zero) h = (tt, (tt, (tt, tt)))
over_names (suc (suc zero)) h = (refl, tt)
over_names (suc (suc (suc v))) h = absurd (omega arith)

-- the one variable that is generalised
only_first : (v : ℕ) → in_scope general v ≡ true → 0 ≡ v
only_first v i = elim (either (nat_eq 0 v) false i) [ inl j ↦ eqb-true 0 v j | inr j ↦ cc ]

first_marked : (v : ℕ) → in_scope general v ≡ true → false ≡ admits_in general v
first_marked v i = subst (λ x. false ≡ admits_in general x) (only_first v i) refl

-- what is in scope inside the declaration
inner_scope : (l v : ℕ) → in_scope (inside none_in_scope 0 general (suc l)) v ≡ in_scope general v
inner_scope l v = ap (λ b. in_scope (if b then general ++ [] else []) v) (lt-ltb 0 (suc l) (omega arith))

inner_admits : (l v : ℕ) → admits_in (inside none_in_scope 0 general (suc l)) v ≡ admits_in general v
inner_admits l v = ap (λ b. admits_in (if b then general ++ [] else []) v) (lt-ltb 0 (suc l) (omega arith))

-- after the declaration x's variable is generalised, and the number's alone has a type over what is in scope
id_is_general : Generic 3 (seen types slots) (limit_at after) general none_in_scope values
id_is_general = record {
  equality = λ v. false;
  solves = solves;
  names = names;
  within = within;
  itself = itself;
  marked = first_marked;
  nested = λ l v i. i;
  admitted = λ l v i. cc;
  apart = λ l v i. cc;
}
  where
    names : (v : ℕ) → v < 3 → Over (limit_at after v).names (values v)
    names zero h = tt
    names (suc zero) h = over_names 1 h
    names (suc (suc zero)) h = over_names 2 h
    names (suc (suc (suc v))) h = absurd (omega arith)

    within : (v : ℕ) → v < 3 → (limit_at after v).level < dead_level → over [] (values v) ≡ true
    within zero h d = absurd (omega arith)
    within (suc zero) h d = absurd (omega arith)
    within (suc (suc zero)) h d = refl
    within (suc (suc (suc v))) h d = absurd (omega arith)

    itself : (v : ℕ) → in_scope general v ≡ true → values v ≡ var v
    itself v i = subst (λ x. values x ≡ var x) (only_first v i) refl

-- inside it that variable is a parameter in scope, and none is generalised yet
id_is_inside : Generic 3 (seen types slots) (limit_at before) [] (inside none_in_scope 0 general) values
id_is_inside = record {
  equality = λ v. false;
  solves = solves;
  names = names;
  within = within;
  itself = λ v i. cc;
  marked = λ v i. cc;
  nested = nested;
  admitted = admitted;
  apart = λ l v i. refl;
}
  where
    names : (v : ℕ) → v < 3 → Over (limit_at before v).names (values v)
    names zero h = tt
    names (suc zero) h = over_names 1 h
    names (suc (suc zero)) h = over_names 2 h
    names (suc (suc (suc v))) h = absurd (omega arith)

    within : (v : ℕ) → v < 3 → (limit_at before v).level < dead_level → over (inside none_in_scope 0 general (limit_at before v).level) (values v) ≡ true
    within zero h d = refl
    within (suc zero) h d = refl
    within (suc (suc zero)) h d = refl
    within (suc (suc (suc v))) h d = absurd (omega arith)

    nested : (l v : ℕ) → in_scope (inside none_in_scope 0 general l) v ≡ true → in_scope (inside none_in_scope 0 general (suc l)) v ≡ true
    nested zero v i = cc
    nested (suc l) v i = inner_scope (suc l) v ∙ (sym (inner_scope l v) ∙ i)

    admitted : (l v : ℕ) → in_scope (inside none_in_scope 0 general l) v ≡ true → false ≡ admits_in (inside none_in_scope 0 general l) v
    admitted zero v i = cc
    admitted (suc l) v i = first_marked v (sym (inner_scope l v) ∙ i) ∙ sym (inner_admits l v)

-- the tree reads as what they stand for
id_reads : type_of types values [] (record { ty = 2; naming = None }) ≡ function_type (var 0) (var 0)
id_reads = refl

number_reads : type_of types values [] (record { ty = 3; naming = None }) ≡ int
number_reads = refl
