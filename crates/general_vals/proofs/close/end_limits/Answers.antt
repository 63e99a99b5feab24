use Rattle.std.proofs.Common.{refl, arith}
use Rattle.general_vals.proofs.Closing.{ending-next, ending-end}
use Rattle.general_vals.proofs.close.end_limits.Goals as goal

pub loop-v-preserved : goal.loop-v-preserved
loop-v-preserved c = record {
  reached = omega (arith, c.loop-v.invariant.reached);
  ended =
      ending-next c.args.limits.now.items c.loop-v.limits.items _ c.args.level c.args.first c.loop-v.v _ c.index.result.now c.end_limit.result (omega arith) c.loop-v.invariant.reached
      (omega (arith, c.loop-v-test.true, c.len-v-end.ensures, c.loop-v.invariant.ended.same, c.args.limits.now.ok.0)) c.loop-v.invariant.ended c.index.ensures c.end_limit.ensures refl;
}

pub returns-clause-each : goal.returns-clause-each
returns-clause-each c =
    ending-end c.args.limits.now.items c.loop-v.limits.items c.args.level c.args.first c.loop-v.v c.loop-v.invariant.reached
    (omega (arith, c.loop-v-test.false, c.len-v-end.ensures, c.loop-v.invariant.ended.same, c.args.limits.now.ok.0)) c.loop-v.invariant.ended
