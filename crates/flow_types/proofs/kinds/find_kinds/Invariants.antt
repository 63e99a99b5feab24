use Rattle.std.proofs.Common.{◌≤◌, length, drop}
use Rattle.flow_types.proofs.Entered.{Known}
use Rattle.flow_types.proofs.kinds.find_kinds.Given as goal

abbrev pub invariant-loop-left : goal.invariant-loop-left
invariant-loop-left l = record { within : l.left ≤ length l.found; known : Known (drop l.left l.found) l.kinds.items }

abbrev pub decreases-loop-left : goal.decreases-loop-left
decreases-loop-left l = l.left
