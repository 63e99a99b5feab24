use Rattle.prog_leaves.proofs.Going.{Entering}
use Rattle.prog_leaves.proofs.bounds.check_parameters.Given as goal

abbrev pub invariant-loop-i : goal.invariant-loop-i
invariant-loop-i l = Entering l.tables l.parameters l.fn.environment l.i l.environment l.so_far
