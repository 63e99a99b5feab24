use Rattle.std.proofs.Common.{◌≡◌, map, take}
use Rattle.ty_table.specs.TypeAt.{type_at}
use Rattle.ir_uses.proofs.parts.same_types.Given as goal

abbrev pub invariant-loop-i : goal.invariant-loop-i
invariant-loop-i l = map (type_at l.types) (take l.i l.ts) ≡ map (type_at l.types) (take l.i l.us)
