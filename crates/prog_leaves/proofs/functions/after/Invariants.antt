use Rattle.prog_leaves.proofs.Typing.{Taking}
use Rattle.prog_leaves.proofs.functions.after.Given as goal

abbrev pub invariant-loop-i : goal.invariant-loop-i
invariant-loop-i l = Taking l.types l.parameters l.ty l.now l.i
