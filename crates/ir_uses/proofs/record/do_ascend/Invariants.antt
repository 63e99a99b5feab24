use Rattle.std.proofs.Common.{◌≡◌, true, map, take}
use Rattle.ir_known.specs.of_ir_poly.Types.{ascend}
use Rattle.ir_uses.proofs.record.do_ascend.Given as goal

abbrev pub invariant-loop-i : goal.invariant-loop-i
invariant-loop-i l = ascend (map (λ f. f.0) (take l.i l.fields)) ≡ true
