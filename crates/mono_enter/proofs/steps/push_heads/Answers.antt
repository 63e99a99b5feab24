use Rattle.std.proofs.Common.{◌≡◌, ◌<◌, ◌+◌, ◌-◌, drop, length, refl, arith}
use Rattle.mono_enter.proofs.Walking.{none-pushed, one-pushed}
use Rattle.mono_enter.proofs.steps.push_heads.Goals as goal

pub loop-at-init : goal.loop-at-init
loop-at-init c = record {
  within = c.heads_end-at.ensures.within;
  behind = c.heads_end-at.ensures.behind;
  heads = none-pushed (drop c.heads_end-at.result c.args.words.now) c.args.stand.now c.heads_end-at.ensures.none;
}

pub loop-at-preserved : goal.loop-at-preserved
loop-at-preserved c =
    let q = c.loop-at-test.true in
    let w = c.loop-at.invariant.within in
    let m : c.loop-at.at ≡ (c.loop-at.at - 1) + 1 = omega (arith, q) in
    let lt : c.loop-at.at - 1 < length c.args.words.now = omega (arith, q, w) in
    record {
      within = omega (arith, w);
      behind = omega (arith, q);
      heads = one-pushed c.args.words.now c.loop-at.at (c.loop-at.at - 1) _ c.in-Function.variable c.in-Function.ty c.args.stand.now c.loop-at.stand (record { lists = c.loop-at.stand.lists; functions = c.push.new.self; begun = c.loop-at.stand.begun })
          m lt c.in-Function.is c.loop-at.invariant.heads refl c.in_ok-push-in-Function.ensures.items;
    }
