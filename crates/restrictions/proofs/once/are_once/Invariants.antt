use Rattle.restrictions.proofs.Noting.{Once}
use Rattle.restrictions.proofs.once.are_once.Given as goal

abbrev pub invariant-loop-i : goal.invariant-loop-i
invariant-loop-i l = Once l.keys l.i l.seen

abbrev pub decreases-loop-i : goal.decreases-loop-i
decreases-loop-i l = l.i
