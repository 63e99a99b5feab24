use Rattle.std.proofs.Common.{drop}
use Rattle.mono_number.specs.Moves.{AreWithin}
use Rattle.mono_number.proofs.apart.copies_within.Given as goal

abbrev pub invariant-loop-n : goal.invariant-loop-n
invariant-loop-n l = AreWithin l.limit (drop l.n l.copies) → AreWithin l.limit l.copies
