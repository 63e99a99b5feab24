use Rattle.mono_needed.proofs.Arguments.{Binding}
use Rattle.mono_needed.proofs.open.bind_parts.Given as goal

abbrev pub invariant-loop-i : goal.invariant-loop-i
invariant-loop-i l = Binding l.slots l.parts l.i
