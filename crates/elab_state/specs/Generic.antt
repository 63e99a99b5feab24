-- Solutions that are generic: variables that were generalised are themselves, as parameters of the program.
use Rattle.std.specs.Prelude.{◌≡◌, ℕ, suc, ◌<◌, Bool, true, false, List}
use Rattle.ty_core.specs.Types.{Typ, var}
use Rattle.ty_core.specs.declared.scheme.Quantified.{Quantified}
use Rattle.ty_instance.specs.of_ty_solve.Substitution.{Entry, Solves}
use Rattle.ty_instance.specs.of_ty_solve.Limits.{Over}
use Rattle.ty_instance.specs.of_ty_solve.declared.limit.Limit.{Limit}
use Rattle.prog_tree.specs.of_ir_poly.Types.{in_scope, admits_in, over}
use Rattle.elab_state.specs.States.{made, said_in, limit_in, general_in, dead_level}
use Rattle.elab_state.specs.declared.state.State.{State}

-- D says which parameters are in scope inside so many `val` declarations, and g what variables stand for: of n variables, s tells what is said and b how far they
-- reach, and qs were generalised
pub record Generic (n : ℕ) (s : ℕ → Entry) (b : ℕ → Limit) (qs : List Quantified) (D : ℕ → List Quantified) (g : ℕ → Typ) : Type 0 where
  -- which variables admit equality
  pub equality : ℕ → Bool
  pub solves : Solves equality g s
  pub names : (v : ℕ) → v < n → Over (b v).names (g v)
  -- a variable stands for a type over the parameters in scope at its level, until it is done with
  pub within : (v : ℕ) → v < n → (b v).level < dead_level → over (D (b v).level) (g v) ≡ true
  pub itself : (v : ℕ) → in_scope qs v ≡ true → g v ≡ var v
  pub marked : (v : ℕ) → in_scope qs v ≡ true → equality v ≡ admits_in qs v
  -- what is in scope outside is so inside, and isn't generalised yet
  pub nested : (l v : ℕ) → in_scope (D l) v ≡ true → in_scope (D (suc l)) v ≡ true
  pub admitted : (l v : ℕ) → in_scope (D l) v ≡ true → equality v ≡ admits_in (D l) v
  pub apart : (l v : ℕ) → in_scope (D l) v ≡ true → in_scope qs v ≡ false

abbrev pub IsGeneric : State → (ℕ → List Quantified) → (ℕ → Typ) → Type 0
IsGeneric S = Generic (made S) (said_in S) (limit_in S) (general_in S)

-- a generic solution of a state, with the parameters in scope
pub record GenericSolution (S : State) : Type 0 where
  pub parameters : ℕ → List Quantified
  pub values : ℕ → Typ
  pub generic : IsGeneric S parameters values
