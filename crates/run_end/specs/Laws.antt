-- What settled types are for.
use Rattle.std.specs.Prelude.{◌≡◌, ◌<◌, ℕ, length}
use Rattle.elab_state.specs.States.{types_in}
use Rattle.elab_state.specs.declared.state.State.{State}
use Rattle.elab_steps.specs.World.{World, Comes, type_of}
use Rattle.run_end.specs.Settled.{IsSettledType}

-- In all worlds in which what the state says comes true a settled type stands for the same: no other typing of the run gives it another one.
abbrev pub SettledTypesAreOne : Type 0
SettledTypesAreOne = (S : State) (k : ℕ) → k < length (types_in S) → IsSettledType S k → (W V : World) → Comes S W → Comes S V → type_of W k ≡ type_of V k
