use Rattle.exp_forms.proofs.Clausing.{FieldsSoFar}
use Rattle.exp_forms.proofs.clauses.taken.Given as goal

abbrev pub invariant-loop-i : goal.invariant-loop-i
invariant-loop-i l = FieldsSoFar l.fn.state l.context l.place l.i l.state l.fields
