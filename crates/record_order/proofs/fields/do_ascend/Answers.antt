use Rattle.std.proofs.Common.{sym, ◌∙◌}
use Rattle.record_order.proofs.Halves.{ascend-more, ascend-not, all-ascend}
use Rattle.record_order.proofs.fields.do_ascend.Goals as goal

pub loop-i-preserved : goal.loop-i-preserved
loop-i-preserved c = ascend-more c.args.labels.now c.loop-i.i _ _ c.loop-i.auto.i c.loop-i-test.true c.index-labels-i.is c.index-labels-i-in-loop-i.is c.loop-i.invariant (sym c.is_before.ensures ∙ c.if-not-is_before.false)

pub returns-then-not-is_before : goal.returns-then-not-is_before
returns-then-not-is_before c = ascend-not c.args.labels.now c.loop-i.i _ _ c.loop-i.auto.i c.loop-i-test.true c.index-labels-i.is c.index-labels-i-in-loop-i.is (sym c.is_before.ensures ∙ c.if-not-is_before.true)

pub returns : goal.returns
returns c = all-ascend c.args.labels.now c.loop-i.i c.loop-i-test.false c.loop-i.invariant
