-- What a state says.
use Rattle.std.specs.Prelude.{◌≡◌, ℕ, ◌<◌, ◌≤◌, ◌^◌, ◌-◌, ◌⊎◌, true, List, [], ◌∷◌, ◌++◌, length, Option}
use Rattle.ty_core.specs.Types.{Typ}
use Rattle.ty_core.specs.declared.scheme.Quantified.{Quantified}
use Rattle.ty_table.specs.TypeAt.{type_at}
use Rattle.ty_instance.specs.of_ty_solve.Substitution.{Entry, is_below, is_in, sub}
use Rattle.ty_instance.specs.of_ty_solve.Said.{said}
use Rattle.ty_instance.specs.of_ty_solve.Limits.{limit_at}
use Rattle.ty_instance.specs.of_ty_solve.declared.limit.Limit.{Limit}
use Rattle.prog_tree.specs.of_ir_poly.Types.{Constructor}
use Rattle.prog_tree.specs.of_ir_tables.Tables.{constructors_of, parameters_of, strings_of}
use Rattle.prog_tree.specs.TreeOf.{Reading}
use Rattle.elab_state.specs.Namings.{number_in}
use Rattle.elab_state.specs.Readings.{reading_of}
use Rattle.elab_state.specs.declared.state.State.{State}

-- the types that numbers stand for
abbrev pub types_in : State → List Typ
types_in S = S.solver.subst.types

-- how many variables were made, what is said of them, and how far they reach
abbrev pub made : State → ℕ
made S = length S.solver.subst.slots.items

abbrev pub said_in : State → ℕ → Entry
said_in S = said S.solver.subst

abbrev pub limit_in : State → ℕ → Limit
limit_in S = limit_at S.solver.limits.items

-- The level of variables that are done with: those of a `val` declaration, once it is elaborated. None that is used any more reaches one.
abbrev pub dead_level : ℕ
dead_level = 2 ^ 64 - 1

-- inside l `val` declarations: all others' variables are done with
abbrev pub IsSettled : State → ℕ → Type 0
IsSettled S l = (v : ℕ) → v < made S → ((limit_in S v).level ≤ l) ⊎ ((limit_in S v).level ≡ dead_level)

abbrev pub all_parameters : List (List Quantified) → List Quantified
all_parameters [] = []
all_parameters (qs ∷ qss) = qs ++ all_parameters qss

-- the variables that were generalised, each for ever, with their marks
abbrev pub general_in : State → List Quantified
general_in S = all_parameters (parameters_of S.tables)

-- the program's constructors
abbrev pub table_in : State → List Constructor
table_in S = constructors_of S.tables

-- the numbers of type names where a naming is in force
abbrev pub numbers_in : State → Option ℕ → ℕ → ℕ
numbers_in S = number_in S.namings.items

-- the reading of a tree, where g says what variables stand for
abbrev pub reading_in : State → (ℕ → Typ) → Reading
reading_in S g = reading_of (types_in S) g S.namings.items S.written.items (parameters_of S.tables) (strings_of S.tables)

-- k is a type whose variables are those of l `val` declarations
pub record IsType (S : State) (l k : ℕ) : Type 0 where
  pub held : k < length (types_in S)
  pub below : is_below (made S) (type_at (types_in S) k) ≡ true
  pub shallow : (v : ℕ) → is_in v (type_at (types_in S) k) ≡ true → (limit_in S v).level ≤ l

-- what it stands for
abbrev pub value_in : State → (ℕ → Typ) → ℕ → Typ
value_in S g k = sub g (type_at (types_in S) k)
