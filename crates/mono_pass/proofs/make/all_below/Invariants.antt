use Rattle.std.proofs.Common.{drop}
use Rattle.ty_table.specs.TypeAt.{AllBelow}
use Rattle.mono_pass.proofs.make.all_below.Given as goal

abbrev pub invariant-loop-i : goal.invariant-loop-i
invariant-loop-i l = AllBelow l.limit (drop l.i l.numbers) → AllBelow l.limit l.numbers
