-- What the definitions are for.
use Rattle.std.specs.Prelude.{◌≡◌, ℕ, ◌<◌, ◌≤◌, true, List, [], Some, length}
use Rattle.ty_core.specs.Types.{Typ}
use Rattle.ty_core.specs.declared.name.TyName.{TyName}
use Rattle.ty_core.specs.declared.scheme.Quantified.{Quantified}
use Rattle.ty_instance.specs.of_ty_solve.Limits.{IsSolvableOver}
use Rattle.prog_tree.specs.of_ir_poly.Types.{Constructor, find, over}
use Rattle.prog_tree.specs.of_ir_tables.Tables.{parameters_of}
use Rattle.elab_state.specs.States.{said_in, limit_in, general_in, table_in, reading_in, value_in, dead_level, IsType}
use Rattle.elab_state.specs.Generic.{IsGeneric, GenericSolution}
use Rattle.elab_state.specs.Steps.{Grows, Extends}
use Rattle.elab_state.specs.declared.state.State.{State}

-- steps one after the other are a step, and so is one inside more declarations
abbrev pub StepsCompose : Type 0
StepsCompose = (l m : ℕ) (S T U : State) → l ≤ m → Extends l S T → Extends m T U → Extends l S U

-- a type of a state is one of the next
abbrev pub TypesStay : Type 0
TypesStay = (l k : ℕ) (S T : State) → Extends l S T → IsType S l k → IsType T l k

-- a generic solution gives it a value over the parameters in scope
abbrev pub ValuesAreOver : Type 0
ValuesAreOver = (l k : ℕ) (S : State) (D : ℕ → List Quantified) (g : ℕ → Typ) → l < dead_level → IsGeneric S D g → IsType S l k → over (D l) (value_in S g k) ≡ true

-- with the same value in each state that grows from it
abbrev pub ValuesStay : Type 0
ValuesStay = (l k : ℕ) (S T : State) (g : ℕ → Typ) → Grows S T → IsType S l k → value_in T g k ≡ value_in S g k

-- constructors and lists of parameters stay under their numbers
abbrev pub TablesStay : Type 0
TablesStay = (S T : State) → Grows S T → ((y : TyName) (c : ℕ) (row : Constructor) → find (table_in S) y c ≡ Some row → find (table_in T) y c ≡ Some row)
    × ((g h : ℕ → Typ) (k : ℕ) → k < length (parameters_of S.tables) → (reading_in T g).parameters k ≡ (reading_in S h).parameters k)

-- where nothing was generalised, what can be solved within its limits has a generic solution
abbrev pub SolvablesAreGeneric : Type 0
SolvablesAreGeneric = (S : State) → general_in S ≡ [] → IsSolvableOver (said_in S) (limit_in S) → GenericSolution S
