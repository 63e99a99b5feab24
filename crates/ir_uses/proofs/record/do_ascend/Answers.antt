use Rattle.std.proofs.Common.{sym, ◌∙◌}
use Rattle.ir_uses.proofs.Records.{fields-ascend, fields-descend, all-ascend}
use Rattle.ir_uses.proofs.record.do_ascend.Goals as goal

pub loop-i-preserved : goal.loop-i-preserved
loop-i-preserved c = fields-ascend c.args.fields.now c.loop-i.i _ _ c.loop-i.auto.i c.loop-i-test.true c.loop-i.invariant (sym c.is_before.ensures ∙ c.if-not-is_before.false)

pub returns-then-not-is_before : goal.returns-then-not-is_before
returns-then-not-is_before c = λ ts. fields-descend ts c.args.fields.now c.loop-i.i _ _ c.loop-i.auto.i c.loop-i-test.true (sym c.is_before.ensures ∙ c.if-not-is_before.true)

pub returns : goal.returns
returns c = λ ts. all-ascend ts c.args.fields.now c.loop-i.i c.loop-i-test.false c.loop-i.invariant
