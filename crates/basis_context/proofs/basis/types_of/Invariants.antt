use Rattle.basis_context.proofs.Making.{TypesSoFar}
use Rattle.basis_context.proofs.basis.types_of.Given as goal

abbrev pub invariant-loop-i : goal.invariant-loop-i
invariant-loop-i l = TypesSoFar l.bodies l.i l.types

abbrev pub decreases-loop-i : goal.decreases-loop-i
decreases-loop-i l = l.i
