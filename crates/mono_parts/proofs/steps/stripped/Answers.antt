use Rattle.std.proofs.Common.{true}
use Rattle.mono_parts.specs.Steps.{steps_in}
use Rattle.mono_parts.proofs.Stripping.{zero-bare, bare-none, more-at, until-at, all-at}
use Rattle.mono_parts.proofs.steps.stripped.Goals as goal

pub returns-then-not-strip : goal.returns-then-not-strip
returns-then-not-strip c = λ t i le. zero-bare (steps_in t c.args.steps.now) c.args.strip i c.if-not-strip.true

pub loop-i-init : goal.loop-i-init
loop-i-init c = λ t. bare-none (steps_in t c.args.steps.now)

pub returns-then-ends_strip : goal.returns-then-ends_strip
returns-then-ends_strip c = λ t.
    until-at t c.args.steps.now c.loop-i.i c.index-steps-i.result c.ends_strip.result c.args.strip c.loop-i-test.true (c.loop-i.invariant t) c.index-steps-i.is (c.ends_strip.ensures t true) c.if-ends_strip.true c.if-not-strip.false

pub loop-i-preserved : goal.loop-i-preserved
loop-i-preserved c = λ t.
    more-at t c.args.steps.now c.loop-i.i c.index-steps-i.result c.ends_strip.result c.loop-i-test.true (c.loop-i.invariant t) c.index-steps-i.is (c.ends_strip.ensures t true) c.if-ends_strip.false

pub returns : goal.returns
returns c = λ t. all-at t c.args.steps.now c.loop-i.i c.args.strip c.loop-i-test.false (c.loop-i.invariant t) c.if-not-strip.false
