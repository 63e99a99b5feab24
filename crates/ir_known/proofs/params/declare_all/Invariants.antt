use Rattle.ir_known.proofs.Declaring.{Declared}
use Rattle.ir_known.proofs.params.declare_all.Given as goal

abbrev pub invariant-loop-left : goal.invariant-loop-left
invariant-loop-left l = Declared l.fn.scope l.scope l.parameters l.left

abbrev pub decreases-loop-left : goal.decreases-loop-left
decreases-loop-left l = l.left
