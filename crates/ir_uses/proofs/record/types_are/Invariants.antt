use Rattle.std.proofs.Common.{◌≡◌, map, take}
use Rattle.ty_table.specs.TypeAt.{type_at}
use Rattle.ir_uses.proofs.record.types_are.Given as goal

abbrev pub invariant-loop-i : goal.invariant-loop-i
invariant-loop-i l = map (type_at l.types) (take l.i l.parts) ≡ map (λ f. type_at l.types f.1) (take l.i l.fields)
