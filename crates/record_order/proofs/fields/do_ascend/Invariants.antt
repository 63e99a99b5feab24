use Rattle.std.proofs.Common.{◌≡◌, true, take}
use Rattle.ir_uses.specs.of_ir_poly.Types.{ascend}
use Rattle.record_order.proofs.fields.do_ascend.Given as goal

abbrev pub invariant-loop-i : goal.invariant-loop-i
invariant-loop-i l = ascend (take l.i l.labels) ≡ true
