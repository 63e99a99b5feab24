use Rattle.std.proofs.Common.{◌<◌, length}
use Rattle.ty_table.specs.TypeAt.{AllBelow}
use Rattle.ty_solve_tests.proofs.large.wide.Given as goal

abbrev pub invariant-loop-part : goal.invariant-loop-part
invariant-loop-part l = l.part < length l.s.types → AllBelow (length l.s.types) l.parts.items
