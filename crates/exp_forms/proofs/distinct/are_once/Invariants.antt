use Rattle.exp_forms.proofs.Once.{Seen}
use Rattle.exp_forms.proofs.distinct.are_once.Given as goal

abbrev pub invariant-loop-i : goal.invariant-loop-i
invariant-loop-i l = Seen l.bound l.i l.seen

abbrev pub decreases-loop-i : goal.decreases-loop-i
decreases-loop-i l = l.i
