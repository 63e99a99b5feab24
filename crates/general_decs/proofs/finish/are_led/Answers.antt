use Rattle.std.proofs.Common.{◌∙◌}
use Rattle.general_decs.proofs.Leading.{led-at, led-ends}
use Rattle.general_decs.proofs.finish.are_led.Goals as goal

pub loop-i-preserved : goal.loop-i-preserved
loop-i-preserved c =
    led-at c.args.parameters.now c.args.first c.args.scoped.now c.loop-i.i _ c.index-scoped-i.result c.if-i-parameters.false c.loop-i-test.true c.index-scoped-i.is c.if-parameter-first.false
    c.if-parameter-first-2.false (c.is_same.ensures (c.if-not-is_same.false) ∙ c.mark_of.ensures) c.loop-i.invariant

pub returns : goal.returns
returns c e = led-ends c.args.parameters.now c.args.first c.args.scoped.now c.loop-i.i c.loop-i-test.false c.loop-i.invariant
