-- What the numbers of a tree stand for while types are inferred: a type is one of the solver's and the naming that was in force where it was written.
use Rattle.std.specs.Prelude.{ℕ, ◌<◌, List, [], ◌∷◌, Option, Some, None, slice_get, ⊤}
use Rattle.ty_core.specs.Types.{Typ, var}
use Rattle.ty_core.specs.declared.scheme.Quantified.{Quantified}
use Rattle.ty_table.specs.TypeAt.{type_at}
use Rattle.ty_instance.specs.of_ty_solve.Substitution.{sub}
use Rattle.prog_tree.specs.of_ir_tables.Tables.{parameters_at}
use Rattle.prog_tree.specs.of_ir_tables.declared.constructors.Constructor.{Constructor}
use Rattle.prog_tree.specs.TreeOf.{Reading}
use Rattle.elab_typed.specs.Numbers.{type_as}
use Rattle.elab_state.specs.Namings.{number_in, IsAmong}
use Rattle.elab_state.specs.declared.naming.Naming.{Naming}
use Rattle.elab_state.specs.declared.naming.Written.{Written}

-- the program's type, where g says what variables stand for
abbrev pub type_of : List Typ → (ℕ → Typ) → List Naming → Written → Typ
type_of ts g rs w = type_as (number_in rs w.naming) (sub g (type_at ts w.ty))

-- a number that no type was written under reads as the variable 0
abbrev pub type_if : List Typ → (ℕ → Typ) → List Naming → Option Written → Typ
type_if ts g rs None = var 0
type_if ts g rs (Some w) = type_of ts g rs w

abbrev pub reading_of : List Typ → (ℕ → Typ) → List Naming → List Written → List (List Quantified) → List (List ℕ) → Reading
reading_of ts g rs ws ps ss = record { type = λ k. type_if ts g rs (slice_get ws k); parameters = parameters_at ps; strings = ss }

-- what is written is of a table of n types, with one of so many namings
abbrev pub AreWritten : ℕ → ℕ → List Written → Type 0
AreWritten n count [] = ⊤
AreWritten n count (w ∷ ws) = ((w.ty < n) × IsAmong count w.naming) × AreWritten n count ws

abbrev pub IsHeldArgument : ℕ → Option ℕ → Type 0
IsHeldArgument n None = ⊤
IsHeldArgument n (Some k) = k < n

-- the arguments of constructors are of a table of n types
abbrev pub AreHeldRows : ℕ → List Constructor → Type 0
AreHeldRows n [] = ⊤
AreHeldRows n (k ∷ ks) = IsHeldArgument n k.argument × AreHeldRows n ks
