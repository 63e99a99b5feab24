use Rattle.std.proofs.Common.{take}
use Rattle.std.specs.List.{AllByRecursion}
use Rattle.closure_first.specs.Held.{IsByte}
use Rattle.closure_first.proofs.texts.bytes_are_bytes.Given as goal

abbrev pub invariant-loop-i : goal.invariant-loop-i
invariant-loop-i l = AllByRecursion IsByte (take l.i l.text)
