use Rattle.rec_groups.proofs.Adding.{BindSoFar}
use Rattle.rec_groups.proofs.functions.bind_head.Given as goal

abbrev pub invariant-loop-i : goal.invariant-loop-i
invariant-loop-i l = BindSoFar l.variables l.i l.numbers.items l.fn.bound.items l.bound.items l.fn.flags.items l.flags.items

abbrev pub decreases-loop-i : goal.decreases-loop-i
decreases-loop-i l = l.i
