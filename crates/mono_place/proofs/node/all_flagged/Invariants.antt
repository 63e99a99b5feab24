use Rattle.mono_place.proofs.Placed.{FlagsLeft}
use Rattle.mono_place.proofs.node.all_flagged.Given as goal

abbrev pub invariant-loop-i : goal.invariant-loop-i
invariant-loop-i l = FlagsLeft l.types l.parts l.i
