use Rattle.std.proofs.Common.{◌≡◌, ◌≤◌, ◌++◌, drop, length}
use Rattle.mono_state.specs.Going.{slots_for}
use Rattle.mono_state.proofs.names.put_slots.Given as goal

abbrev pub invariant-loop-left : goal.invariant-loop-left
invariant-loop-left l = (l.slots ≡ slots_for (drop l.left l.parameters) (drop l.left l.types) ++ l.fn.slots) × (l.left ≤ length l.parameters) × (l.left ≤ length l.types)

abbrev pub decreases-loop-left : goal.decreases-loop-left
decreases-loop-left l = l.left
