use Rattle.std.proofs.Common.{◌-◌, refl, arith}
use Rattle.mono_place.proofs.Going.{pushed-none, pushed-read, pushed-all, before}
use Rattle.mono_place.proofs.walk.visit_all.Goals as goal

pub loop-left-init : goal.loop-left-init
loop-left-init c = pushed-none c.args.steps.now.items c.args.parts.now _ refl

pub loop-left-preserved : goal.loop-left-preserved
loop-left-preserved c =
    let w = c.loop-left.invariant.within in
    let p = c.loop-left-test.true in
    pushed-read c.args.steps.now.items c.loop-left.steps.items c.push.new.self.items c.args.parts.now (c.loop-left.left - 1) c.loop-left.left _ (before c.loop-left.left p) (omega arith) c.loop-left.invariant c.in_ok-push.ensures.items

pub returns : goal.returns
returns c = pushed-all c.args.steps.now.items c.loop-left.steps.items c.args.parts.now c.loop-left.left (omega arith) c.loop-left.invariant
