use Rattle.std.proofs.Common.{take}
use Rattle.ty_table.specs.TypeAt.{AllBelow}
use Rattle.elab_worlds.proofs.ordered.are_below.Given as goal

abbrev pub invariant-loop-i : goal.invariant-loop-i
invariant-loop-i l = AllBelow l.bound (take l.i l.numbers)
