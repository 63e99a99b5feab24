use Rattle.std.proofs.Common.{◌≡◌, ◌<◌, ℕ, false}
use Rattle.elab_state.specs.States.{said_in}
use Rattle.elab_worlds.specs.Final.{is_row}
use Rattle.elab_worlds.proofs.ordered.are_settled.Given as goal

abbrev pub invariant-loop-v : goal.invariant-loop-v
invariant-loop-v l = (v : ℕ) → v < l.v → is_row (said_in l.state v) ≡ false
