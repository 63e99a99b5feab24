use Rattle.closed_types.proofs.Entering.{Entered}
use Rattle.closed_types.proofs.parameters.parameters_at.Given as goal

abbrev pub invariant-loop-i : goal.invariant-loop-i
invariant-loop-i l = Entered l.types l.tyvars l.i l.fn.scope l.scope l.fn.types

abbrev pub decreases-loop-i : goal.decreases-loop-i
decreases-loop-i l = l.i
