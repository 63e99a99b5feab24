use Rattle.restrictions.specs.Nodes.{type_bind_places}
use Rattle.restrictions.proofs.Standing.{Comes}
use Rattle.restrictions.proofs.binds.of_type_binds.Given as goal

abbrev pub invariant-loop-i : goal.invariant-loop-i
invariant-loop-i l = Comes type_bind_places l.binds l.i l.fn.found.items l.found.items
