-- Variables of classes that stand for the default of their class.
use Rattle.std.specs.Prelude.{◌≡◌, ◌<◌, ◌≤◌, ℕ}
use Rattle.ty_core.specs.Types.{Typ, con, none, name}
use Rattle.ty_core.specs.Marks.{overloaded}
use Rattle.ty_core.specs.declared.mark.Class.{Class}
use Rattle.ty_core.specs.declared.mark.Mark.{Mark}
use Rattle.ty_core.specs.declared.name.TyName.{TyName}
use Rattle.ty_solve.specs.Substitution.{free}
use Rattle.elab_state.specs.States.{dead_level, limit_in, said_in}
use Rattle.elab_state.specs.declared.state.State.{State}
use Rattle.elab_steps.specs.Growing.{Always}
use Rattle.elab_steps.specs.World.{World}
use Rattle.elab_worlds.specs.Final.{default_of}

-- v stands for the default of the class
abbrev pub HasDefault : ℕ → Class → World → Type 0
HasDefault v c W = W.value v ≡ con (name (overloaded (default_of c))) none

-- If v was open in S, of a class, and not generalised, it has the default of the class wherever what T says comes true.
abbrev pub IsChosen : State → State → ℕ → Type 0
IsChosen S T v = (c : Class) → said_in S v ≡ free (Mark.Class c) → (limit_in S v).level < dead_level → Always T (HasDefault v c)

-- so does each variable from the first one on
abbrev pub AreChosen : State → State → ℕ → Type 0
AreChosen S T first = (v : ℕ) → first ≤ v → IsChosen S T v

-- a type name without arguments
abbrev pub IsNamed : Typ → Type 0
IsNamed t = (y : TyName) × (t ≡ con (name y) none)

-- of no other variable than v anything else is said
abbrev pub LeavesOthers : State → State → ℕ → Type 0
LeavesOthers S T v = (x : ℕ) → (x ≡ v → ⊥) → said_in T x ≡ said_in S x
