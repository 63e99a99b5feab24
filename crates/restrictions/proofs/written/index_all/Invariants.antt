use Rattle.restrictions.proofs.Lists.{Indexed}
use Rattle.restrictions.proofs.written.index_all.Given as goal

abbrev pub invariant-loop-i : goal.invariant-loop-i
invariant-loop-i l = Indexed l.binds l.i l.fn.index l.index

abbrev pub decreases-loop-i : goal.decreases-loop-i
decreases-loop-i l = l.i
