use Rattle.std.proofs.Common.{sym, ◌∙◌}
use Rattle.ir_known.proofs.Declaring.{not-yes}
use Rattle.ir_uses.proofs.Records.{beside-more, beside-found}
use Rattle.ir_uses.proofs.record.beside.Goals as goal

pub loop-i-preserved : goal.loop-i-preserved
loop-i-preserved c = beside-more c.args.label.now c.args.labels.now c.args.parts.now c.loop-i.i c.index-labels-i.result c.loop-i-test.true c.requires c.loop-i.invariant
    (λ p. not-yes c.if-same.false (c.is_same-same.ensures.1 (p ∙ sym c.index-labels-i.is)))

pub returns-then-same : goal.returns-then-same
returns-then-same c = beside-found c.args.label.now c.args.labels.now c.args.parts.now c.loop-i.i c.index-labels-i.result _ c.loop-i-test.true c.requires c.loop-i.invariant (c.is_same-same.ensures.0 c.if-same.true ∙ c.index-labels-i.is)
