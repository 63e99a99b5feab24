use Rattle.mono_read.proofs.Given.{if-ok}
use Rattle.mono_read.proofs.Stacked.{block-bound}
use Rattle.mono_read.proofs.parts.bind_block.Goals as goal

pub returns : goal.returns
returns c = if-ok _ _ c.push_step.result (λ u h types strings. block-bound types strings _ _ _ c.in_ok-binding.binding c.args.body c.in_ok-body.body c.in_ok-body.ensures (c.in_ok-binding.ensures types strings) (h types strings)) c.push_step.ensures
