use Rattle.elab_types.proofs.Parts.{Chained}
use Rattle.elab_types.proofs.build.function_types.Given as goal

abbrev pub invariant-loop-last : goal.invariant-loop-last
invariant-loop-last l = Chained l.fn.types l.types l.rest l.last l.made

abbrev pub decreases-loop-last : goal.decreases-loop-last
decreases-loop-last l = l.last
