use Rattle.basis_context.proofs.Making.{SoFar}
use Rattle.basis_context.proofs.basis.scope_of.Given as goal

abbrev pub invariant-loop-i : goal.invariant-loop-i
invariant-loop-i l = SoFar l.rows l.first l.i l.scope

abbrev pub decreases-loop-i : goal.decreases-loop-i
decreases-loop-i l = l.i
