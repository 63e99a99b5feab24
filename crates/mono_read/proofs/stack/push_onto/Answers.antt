use Rattle.mono_read.proofs.Given.{if-ok}
use Rattle.mono_read.proofs.Stacked.{pushed}
use Rattle.mono_read.proofs.stack.push_onto.Goals as goal

pub returns : goal.returns
returns c = if-ok _ _ c.push-2.result (λ u h types strings. pushed types strings _ _ c.args.taken.steps.items c.push.new.self.items c.args.step c.args.taken.end c.in_ok-push.ensures.items (h types strings)) c.push-2.ensures
