use Rattle.std.proofs.Common.{arith, sym, ◌∙◌}
use Rattle.ir_known.proofs.Declaring.{not-yes}
use Rattle.ir_uses.proofs.Lists.{agree-more, agree-not, map-itself}
use Rattle.ir_uses.proofs.record.labels_are.Goals as goal

pub loop-i-preserved : goal.loop-i-preserved
loop-i-preserved c = let t = c.loop-i-test.true in let l = c.if-labels-fields.false in
    agree-more (λ x. x) (λ f. f.0) c.args.labels.now c.args.fields.now c.loop-i.i c.index-labels-i.result c.index-fields-i.result t (omega arith) c.loop-i.invariant
    (sym c.index-labels-i.is ∙ c.is_label.ensures.0 c.if-not-is_label.false)

pub returns-then-not-is_label : goal.returns-then-not-is_label
returns-then-not-is_label c = let t = c.loop-i-test.true in let l = c.if-labels-fields.false in (
  (λ f. absurd (cc)),
  (λ p. absurd (agree-not (λ x. x) (λ f. f.0) c.args.labels.now c.args.fields.now c.loop-i.i c.index-labels-i.result c.index-fields-i.result t (omega arith)
      (λ o. not-yes c.if-not-is_label.true (c.is_label.ensures.1 (c.index-labels-i.is ∙ o))) (map-itself c.args.labels.now ∙ p))),
)
