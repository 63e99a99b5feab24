use Rattle.std.proofs.Common.{take, reverse}
use Rattle.std.specs.List.{AllByRecursion}
use Rattle.mono_form.specs.Parts.{TakesBelow}
use Rattle.mono_form.proofs.parts.take_types.Given as goal

abbrev pub invariant-loop-i : goal.invariant-loop-i
invariant-loop-i l = AllByRecursion (λ c. TakesBelow l.len c.1) (take l.i (reverse l.constructors))
