use Rattle.mono_check.proofs.Openings.{Within}
use Rattle.mono_check.proofs.opening.enter_function.Given as goal

abbrev pub invariant-loop-i : goal.invariant-loop-i
invariant-loop-i l = Within l.tables l.fn.scope l.scope l.parameters l.last l.ty l.rest l.i
