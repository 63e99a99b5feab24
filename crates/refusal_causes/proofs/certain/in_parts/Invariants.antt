use Rattle.refusal_causes.proofs.Reaching.{Going}
use Rattle.refusal_causes.proofs.certain.in_parts.Given as goal

abbrev pub invariant-loop-i : goal.invariant-loop-i
invariant-loop-i l = Going l.parts l.i l.fn.scope l.scope
