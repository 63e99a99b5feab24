use Rattle.exp_forms.proofs.FinishingFunctions.{Curried}
use Rattle.exp_forms.proofs.finish_function.curried_type.Given as goal

abbrev pub invariant-loop-i : goal.invariant-loop-i
invariant-loop-i l = Curried l.initial.state l.state l.types l.range l.i l.ty

abbrev pub decreases-loop-i : goal.decreases-loop-i
decreases-loop-i l = l.i
