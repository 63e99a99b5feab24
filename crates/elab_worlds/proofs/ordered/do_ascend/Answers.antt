use Rattle.std.proofs.Common.{sym, ap₂, ◌∙◌, arith}
use Rattle.label_rows.specs.Order.{label_before}
use Rattle.elab_worlds.proofs.Ordering.{ascends-whole, not-ascending}
use Rattle.elab_worlds.proofs.ordered.do_ascend.Goals as goal

pub returns-then-not-stands_before : goal.returns-then-not-stands_before
returns-then-not-stands_before c =
    not-ascending c.args.labels.now c.loop-i.i c.index-labels-i.result c.index-labels-i-in-loop-i.result c.loop-i.invariant.0 (omega arith)
    (ap₂ label_before (sym c.index-labels-i.is) (sym c.index-labels-i-in-loop-i.is) ∙ sym c.stands_before.ensures ∙ c.if-not-stands_before.true)

pub returns : goal.returns
returns c = ascends-whole c.args.labels.now (λ k d lt. c.loop-i.invariant.1 k d (omega arith))
