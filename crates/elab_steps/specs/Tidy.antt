-- States inside l `val` declarations.
use Rattle.std.specs.Prelude.{◌≡◌, ◌<◌, ℕ, Bool, true, false}
use Rattle.std.specs.List.{AllByRecursion}
use Rattle.ty_table.specs.TypeAt.{type_at}
use Rattle.elab_types.specs.of_ty_solve.Substitution.{Entry, free, bound, row, is_in, is_open}
use Rattle.elab_state.specs.of_ir_poly.Types.{in_scope, is_declarable, IsConstructor}
use Rattle.elab_state.specs.States.{types_in, made, said_in, limit_in, general_in, table_in, dead_level, IsSettled}
use Rattle.elab_state.specs.declared.state.State.{State}

-- what is said of a variable that may be a parameter: it is open, and of no class
abbrev pub is_parameter : Entry → Bool
is_parameter (free k) = is_declarable k
is_parameter (bound t) = false
is_parameter (row e ks us) = false

-- Variables are those of l declarations, or done with; the open ones that are done with are those that were generalised, and these may be parameters.
pub record IsTidy (S : State) (l : ℕ) : Type 0 where
  pub settled : IsSettled S l
  pub done : (v : ℕ) → in_scope (general_in S) v ≡ true → (limit_in S v).level ≡ dead_level
  pub ended : (v : ℕ) → v < made S → is_open (said_in S v) ≡ true → (limit_in S v).level ≡ dead_level → in_scope (general_in S) v ≡ true
  pub parameters : (v : ℕ) → in_scope (general_in S) v ≡ true → is_parameter (said_in S v) ≡ true
  pub low : l < dead_level

-- a variable that is done with stays what it is
pub record StaysDone (S T : State) (v : ℕ) : Type 0 where
  pub said : said_in T v ≡ said_in S v
  pub level : (limit_in T v).level ≡ dead_level

-- the state's constructors may stand in a program's table, behind those of the basis
abbrev pub AreConstructors : State → Type 0
AreConstructors S = AllByRecursion IsConstructor (table_in S)

-- no variable of the type is done with
abbrev pub IsLive : State → ℕ → Type 0
IsLive S k = (v : ℕ) → is_in v (type_at (types_in S) k) ≡ true → (limit_in S v).level < dead_level
