use Rattle.mono_read.proofs.Given.{if-ok}
use Rattle.mono_read.proofs.Stacked.{function-bound}
use Rattle.mono_read.proofs.parts.bind_function.Goals as goal

pub returns : goal.returns
returns c = if-ok _ _ c.push_step.result (λ u h types strings. function-bound types strings _ _ _ c.in_ok-binding.binding c.args.parameters.items c.reverse.new.self c.args.last c.args.body c.in_ok-body.body c.reverse.ensures.items c.in_ok-body.ensures (c.in_ok-binding.ensures types strings) (h types strings)) c.push_step.ensures
