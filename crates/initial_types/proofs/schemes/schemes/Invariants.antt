use Rattle.std.proofs.Common.{take}
use Rattle.initial_types.proofs.Making.{Made}
use Rattle.initial_types.proofs.schemes.schemes.Given as goal

abbrev pub invariant-loop-i : goal.invariant-loop-i
invariant-loop-i l = Made l.fn.types l.types (take l.i l.rows) l.made.items
