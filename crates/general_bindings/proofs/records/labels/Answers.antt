use Rattle.std.proofs.Common.{ap, ◌∙◌}
use Rattle.general_bindings.specs.General.{labels_from}
use Rattle.general_bindings.proofs.Rows.{labels-more, take-whole}
use Rattle.general_bindings.proofs.records.labels.Goals as goal

pub loop-i-preserved : goal.loop-i-preserved
loop-i-preserved c = labels-more c.args.spots.now c.loop-i.i c.loop-i.made.items _ c.in_ok-next.next c.loop-i-test.true c.loop-i.invariant c.in_ok-next.ensures c.in_ok-push.ensures.items

pub returns : goal.returns
returns c = c.loop-i.invariant ∙ ap (labels_from 1) (take-whole c.args.spots.now c.loop-i.i c.loop-i-test.false)
