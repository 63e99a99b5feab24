use Rattle.elab_exps.proofs.Taking.{EnteredSoFar}
use Rattle.elab_exps.proofs.parameters.enter_parameters.Given as goal

abbrev pub invariant-loop-i : goal.invariant-loop-i
invariant-loop-i l = EnteredSoFar l.fn.state l.fn.context l.place l.i l.state l.context l.made
