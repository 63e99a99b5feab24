use Rattle.std.proofs.Common.{◌≡◌, true, map, take}
use Rattle.ty_core.specs.Types.{typs_of}
use Rattle.ty_table.specs.TypeAt.{type_at}
use Rattle.ir_known.specs.of_ir_poly.Types.{all_over}
use Rattle.ir_known.specs.Knows.{marks_of}
use Rattle.ir_uses.proofs.using.are_over.Given as goal

abbrev pub invariant-loop-i : goal.invariant-loop-i
invariant-loop-i l = all_over (marks_of l.scope) (typs_of (map (type_at l.types) (take l.i l.ts))) ≡ true
