use Rattle.elab_steps.proofs.Flexing.{SettledBefore}
use Rattle.elab_steps.proofs.flexible.are_settled.Given as goal

abbrev pub invariant-loop-i : goal.invariant-loop-i
invariant-loop-i l = SettledBefore l.state l.first l.asked l.i
