use Rattle.restrictions.proofs.Noting.{Onto}
use Rattle.restrictions.proofs.once.note_all.Given as goal

abbrev pub invariant-loop-i : goal.invariant-loop-i
invariant-loop-i l = Onto l.keys l.i l.fn.noted l.noted

abbrev pub decreases-loop-i : goal.decreases-loop-i
decreases-loop-i l = l.i
