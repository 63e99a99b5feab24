use Rattle.name_scopes.proofs.Initially.{BoundFrom}
use Rattle.name_scopes.proofs.basis.bind_rows.Given as goal

abbrev pub invariant-loop-i : goal.invariant-loop-i
invariant-loop-i l = BoundFrom l.rows l.i l.fn.scope l.scope

abbrev pub decreases-loop-i : goal.decreases-loop-i
decreases-loop-i l = l.i
