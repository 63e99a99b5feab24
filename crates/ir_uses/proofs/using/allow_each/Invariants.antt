use Rattle.std.proofs.Common.{map, take}
use Rattle.ty_table.specs.TypeAt.{type_at}
use Rattle.ir_known.specs.of_ir_poly.Types.{admits_in, AreAllowed}
use Rattle.ir_known.specs.Knows.{marks_of}
use Rattle.ir_uses.proofs.using.allow_each.Given as goal

abbrev pub invariant-loop-i : goal.invariant-loop-i
invariant-loop-i l = AreAllowed (admits_in (marks_of l.scope)) (take l.i l.parameters) (map (type_at l.types) (take l.i l.ts))
