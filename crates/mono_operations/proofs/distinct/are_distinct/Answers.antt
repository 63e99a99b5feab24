use Rattle.std.proofs.Common.{◌∙◌}
use Rattle.mono_operations.proofs.Labels.{distinct-once}
use Rattle.mono_operations.proofs.distinct.are_distinct.Goals as goal

pub returns : goal.returns
returns c = distinct-once c.args.labels.now c.as_slice.result.now c.in_ok-once.once (c.as_slice.ensures.value ∙ c.in_ok-keys.ensures) c.in_ok-once.ensures
