use Rattle.exp_forms.proofs.Clausing.{SoFar}
use Rattle.exp_forms.proofs.clauses.enter_all.Given as goal

abbrev pub invariant-loop-i : goal.invariant-loop-i
invariant-loop-i l = SoFar l.fn.state l.fn.context l.place l.i l.state l.context l.made
