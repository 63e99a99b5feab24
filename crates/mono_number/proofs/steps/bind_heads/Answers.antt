use Rattle.std.proofs.Common.{◌≡◌, ◌-◌, ◌+◌, refl, arith}
use Rattle.mono_number.proofs.Heads.{heads-start, heads-next, heads-done}
use Rattle.mono_number.proofs.steps.bind_heads.Goals as goal

pub loop-left-init : goal.loop-left-init
loop-left-init c = record { within = omega arith; heads = heads-start c.args.limit c.args.words.now c.args.from c.args.count c.args.count c.args.walk.now refl c.requires.is_open c.requires.heads }

pub loop-left-preserved : goal.loop-left-preserved
loop-left-preserved c =
    let w = c.loop-left.invariant.within in
    let q = c.loop-left-test.true in
    let m : c.loop-left.left ≡ (c.loop-left.left - 1) + 1 = omega (arith, q) in
    record {
      within = omega (arith, w);
      heads = heads-next c.args.limit c.args.words.now c.args.from c.args.count c.loop-left.left (c.loop-left.left - 1) c.in-Some.at (c.args.count - 1 - (c.loop-left.left - 1)) c.args.walk.now c.loop-left.walk c.bind_head.new.walk m w c.in-Some.ensures.1 refl
          c.loop-left.invariant.heads c.in_ok-bind_head-in-Some.ensures;
    }

pub returns : goal.returns
returns c =
    let z : c.loop-left.left ≡ 0 = (let q = c.loop-left-test.false in omega (arith, q)) in
    heads-done c.args.limit c.args.words.now c.args.from c.args.count c.loop-left.left c.args.walk.now c.loop-left.walk z c.loop-left.invariant.heads
