use Rattle.std.proofs.Common.{take, length}
use Rattle.std.specs.List.{AllByRecursion}
use Rattle.mono_form.specs.Parts.{RowBelow}
use Rattle.mono_form.proofs.parts.has_parts.Given as goal

abbrev pub invariant-loop-n : goal.invariant-loop-n
invariant-loop-n l = AllByRecursion (RowBelow (length l.types)) (take l.n l.types)
