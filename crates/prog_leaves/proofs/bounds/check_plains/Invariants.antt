use Rattle.prog_pats.proofs.of_prog_parts.Loops.{Asking}
use Rattle.prog_leaves.specs.Right.{plain_right}
use Rattle.prog_leaves.proofs.bounds.check_plains.Given as goal

abbrev pub invariant-loop-i : goal.invariant-loop-i
invariant-loop-i l = Asking (plain_right l.tables l.environment) l.binds l.i l.so_far
