use Rattle.std.proofs.Common.{◌-◌, length, refl, arith}
use Rattle.flow_types.proofs.Entered.{known-none, known-next}
use Rattle.flow_types.proofs.kinds.find_kinds.Goals as goal

pub loop-left-init : goal.loop-left-init
loop-left-init c = record { within = omega arith; known = known-none c.args.found.now (length c.args.found.now) c.new-kinds.result.items (omega arith) c.new-kinds.ensures.items }

pub loop-left-preserved : goal.loop-left-preserved
loop-left-preserved c =
    let w = c.loop-left.invariant.within in
    let q = c.loop-left-test.true in
    record {
      within = omega (arith, w);
      known = known-next c.args.found.now c.loop-left.left (c.loop-left.left - 1) _ _ c.loop-left.kinds.items c.set_kind.new.kinds.items (omega (arith, q)) (omega (arith, w, q)) refl c.in_ok-set_kind.ensures.long c.in_ok-set_kind.ensures.kinds
          c.loop-left.invariant.known;
    }
