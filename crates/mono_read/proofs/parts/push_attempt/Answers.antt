use Rattle.mono_read.proofs.Given.{if-ok}
use Rattle.mono_read.proofs.Stacked.{attempt-put}
use Rattle.mono_read.proofs.parts.push_attempt.Goals as goal

pub returns : goal.returns
returns c = if-ok _ _ c.push-2.result (λ u h types strings. attempt-put types strings _ _ c.args.attempts.items c.push.new.self.items c.args.last c.args.attempt c.in_ok-push.ensures.items (h types strings)) c.push-2.ensures
