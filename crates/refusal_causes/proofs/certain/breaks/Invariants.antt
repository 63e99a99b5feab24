use Rattle.refusal_causes.proofs.Reaching.{Passed}
use Rattle.refusal_causes.proofs.certain.breaks.Given as goal

abbrev pub invariant-loop-i : goal.invariant-loop-i
invariant-loop-i l = Passed l.parts l.i
