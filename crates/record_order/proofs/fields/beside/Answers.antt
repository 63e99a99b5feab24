use Rattle.std.proofs.Common.{◌+◌, ◌-◌, ◌/◌, length, refl, sym, ◌∙◌, arith}
use Rattle.record_order.proofs.Halves.{between-all, upper-half, lower-half, found, not-found}
use Rattle.record_order.proofs.fields.beside.Goals as goal

pub loop-low-init : goal.loop-low-init
loop-low-init c = between-all c.args.label.now c.args.labels.now (length c.args.labels.now) refl

pub loop-low-preserved-then-is_earlier : goal.loop-low-preserved-then-is_earlier
loop-low-preserved-then-is_earlier c =
    upper-half c.args.label.now c.args.labels.now c.loop-low.low c.loop-low.high (c.loop-low.low + (c.loop-low.high - c.loop-low.low) / 2) c.index-labels-middle.result c.requires.ascend (omega arith) c.index-labels-middle.is
    (sym c.is_earlier.ensures ∙ c.if-is_earlier.true) c.loop-low.invariant

pub loop-low-preserved : goal.loop-low-preserved
loop-low-preserved c =
    lower-half c.args.label.now c.args.labels.now c.loop-low.low c.loop-low.high (c.loop-low.low + (c.loop-low.high - c.loop-low.low) / 2) c.index-labels-middle.result c.requires.ascend (omega arith) c.index-labels-middle.is
    (sym c.is_earlier-else-is_earlier.ensures ∙ c.if-is_earlier-2.true) c.loop-low.invariant

pub returns-else-is_earlier-2 : goal.returns-else-is_earlier-2
returns-else-is_earlier-2 c =
    found c.args.label.now c.args.labels.now c.args.parts.now c.loop-low.low c.loop-low.high (c.loop-low.low + (c.loop-low.high - c.loop-low.low) / 2) 0 c.index-labels-middle.result c.requires.same c.requires.ascend (omega arith)
    c.index-labels-middle.is (sym c.is_earlier.ensures ∙ c.if-is_earlier.false) (sym c.is_earlier-else-is_earlier.ensures ∙ c.if-is_earlier-2.false) c.loop-low.invariant

pub returns : goal.returns
returns c = not-found c.args.label.now c.args.labels.now c.args.parts.now c.loop-low.low c.loop-low.high c.loop-low-test.false c.loop-low.invariant
