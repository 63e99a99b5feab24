-- Where a `val` declaration inside l others ends: its variables are done with, and the open ones of them are generalised.
use Rattle.std.specs.Prelude.{◌≡◌, ◌⊎◌, ℕ, suc, ◌<◌, ◌≤◌, true, nat_lt, List, [], ◌++◌, if◌then◌else◌}
use Rattle.ty_core.specs.Types.{Typ}
use Rattle.ty_core.specs.declared.scheme.Quantified.{Quantified}
use Rattle.ty_instance.specs.of_ty_solve.Substitution.{Entry, is_open}
use Rattle.ty_instance.specs.of_ty_solve.Weight.{IsAcyclic, AreBelow}
use Rattle.ty_instance.specs.of_ty_solve.Limits.{AreLimited}
use Rattle.ty_instance.specs.of_ty_solve.declared.limit.Limit.{Limit}
use Rattle.prog_tree.specs.of_ir_poly.Types.{in_scope, are_new}
use Rattle.elab_state.specs.States.{dead_level}
use Rattle.elab_state.specs.Generic.{Generic}

-- the parameters in scope, with these of one more declaration
abbrev pub inside : (ℕ → List Quantified) → ℕ → List Quantified → ℕ → List Quantified
inside D l qs k = if nat_lt l k then qs ++ D l else D k

-- of n variables, of which s tells what is said and b how far they reach, and ps were generalised, qs are generalised: c tells how far they reach then
pub record Generalises (n : ℕ) (s : ℕ → Entry) (b c : ℕ → Limit) (ps qs : List Quantified) (l : ℕ) : Type 0 where
  -- variables are those of this declaration, of one around it, or done with, as those that were generalised
  pub settled : (v : ℕ) → v < n → ((b v).level ≤ suc l) ⊎ ((b v).level ≡ dead_level)
  pub done : (v : ℕ) → in_scope ps v ≡ true → (b v).level ≡ dead_level
  -- the parameters are its open variables, each once, and none of a class
  pub all : (v : ℕ) → v < n → is_open (s v) ≡ true → (b v).level ≡ suc l → in_scope qs v ≡ true
  pub only : (v : ℕ) → in_scope qs v ≡ true → (b v).level ≡ suc l
  pub declarable : are_new qs [] ≡ true
  -- all others reach as far as before
  pub names : (v : ℕ) → (c v).names ≡ (b v).names
  pub outer : (v : ℕ) → (b v).level ≤ l → (c v).level ≡ (b v).level
  pub low : suc l < dead_level

-- A generic solution after is one before, inside, where the parameters stand for themselves; and they are new.
pub record InnerSolution (n : ℕ) (s : ℕ → Entry) (b : ℕ → Limit) (ps qs : List Quantified) (l : ℕ) (D : ℕ → List Quantified) (g : ℕ → Typ) : Type 0 where
  pub inner : Generic n s b ps (inside D l qs) g
  pub new : are_new qs (D l) ≡ true

abbrev pub ValsGeneralise : Type 0
ValsGeneralise = (n : ℕ) (s : ℕ → Entry) (b c : ℕ → Limit) (ps qs : List Quantified) (l : ℕ) (D : ℕ → List Quantified) (g : ℕ → Typ)
    → Generalises n s b c ps qs l → AreLimited b s → IsAcyclic s → AreBelow n s → Generic n s c (ps ++ qs) D g → InnerSolution n s b ps qs l D g
