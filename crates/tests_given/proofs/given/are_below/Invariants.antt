use Rattle.std.proofs.Common.{drop}
use Rattle.ty_table.specs.TypeAt.{AllBelow}
use Rattle.tests_given.proofs.given.are_below.Given as goal

abbrev pub invariant-loop-i : goal.invariant-loop-i
invariant-loop-i l = AllBelow l.len (drop l.i l.numbers) → AllBelow l.len l.numbers
