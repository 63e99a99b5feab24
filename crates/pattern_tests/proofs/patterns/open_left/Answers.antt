use Rattle.std.proofs.Common.{length, refl, arith}
use Rattle.pattern_tests.proofs.Loops.{left-start, left-open, left-done}
use Rattle.pattern_tests.proofs.patterns.open_left.Goals as goal

pub loop-left-init : goal.loop-left-init
loop-left-init c = record {
  within = omega arith;
  done = λ p. left-start _ _ c.args.parts.now (length c.args.parts.now) c.args.u c.args.atom c.new-pairs.result.items c.new-pairs.ensures.items refl p;
}

pub loop-left-preserved : goal.loop-left-preserved
loop-left-preserved c = record {
  within = omega (arith, c.loop-left.invariant.within);
  done = λ p.
      left-open c.args.parts.now c.loop-left.left _ c.index-parts-left.result c.loop-left.pairs.items c.push.new.self.items p c.loop-left.ty c.loop-left.outer _ _ (omega arith) c.loop-left.invariant.within c.index-parts-left.is c.in_ok-push.ensures.items
      (c.loop-left.invariant.done p) c.in_ok-joint.ensures c.in_ok-outer.ensures;
}

pub returns : goal.returns
returns c = λ p.
    left-done c.args.parts.now c.loop-left.left c.loop-left.pairs.items p c.loop-left.ty c.loop-left.outer (omega arith) (c.loop-left.invariant.done p)
