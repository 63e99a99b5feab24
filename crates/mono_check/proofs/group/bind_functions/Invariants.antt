use Rattle.mono_check.proofs.Groups.{Bound}
use Rattle.mono_check.proofs.group.bind_functions.Given as goal

abbrev pub invariant-loop-left : goal.invariant-loop-left
invariant-loop-left l = Bound l.fn.scope l.scope l.functions l.left

abbrev pub decreases-loop-left : goal.decreases-loop-left
decreases-loop-left l = l.left
