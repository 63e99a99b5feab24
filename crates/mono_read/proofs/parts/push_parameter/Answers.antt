use Rattle.mono_bound.specs.Reads.{mono_of}
use Rattle.mono_read.proofs.Given.{if-ok}
use Rattle.mono_read.proofs.Stacked.{parameter-pushed}
use Rattle.mono_read.proofs.parts.push_parameter.Goals as goal

pub returns : goal.returns
returns c = if-ok _ _ c.push-2.result (λ u h types strings. parameter-pushed types strings _ _ c.args.parameters.items c.push.new.self.items c.args.last c.args.new (mono_of types strings c.args.body) c.in_ok-push.ensures.items (h types strings)) c.push-2.ensures
