use Rattle.std.proofs.Common.{◌-◌, refl, arith}
use Rattle.closure_first.proofs.Least.{above-next, above-done}
use Rattle.closure_first.proofs.above.above_all.Goals as goal

pub loop-left-preserved : goal.loop-left-preserved
loop-left-preserved c = record {
  within = let w = c.loop-left.invariant.within in omega (arith, w);
  least =
      let w = c.loop-left.invariant.within in
      let q = c.loop-left-test.true in
      above-next c.args.found.now c.loop-left.left (c.loop-left.left - 1) _ _ c.loop-left.least c.in_ok-next.next (omega (arith, q)) (omega (arith, w, q)) refl c.in_ok-next.ensures c.loop-left.invariant.least;
}

pub returns : goal.returns
returns c = above-done c.args.found.now c.loop-left.left c.loop-left.least (let q = c.loop-left-test.false in omega (arith, q)) c.loop-left.invariant.least
