use Rattle.std.proofs.Common.{take}
use Rattle.std.specs.List.{AllByRecursion}
use Rattle.closure_first.proofs.Holding.{TextIsBytes}
use Rattle.closure_first.proofs.texts.texts_are_bytes.Given as goal

abbrev pub invariant-loop-i : goal.invariant-loop-i
invariant-loop-i l = AllByRecursion TextIsBytes (take l.i l.strings)
