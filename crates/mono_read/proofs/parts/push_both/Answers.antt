use Rattle.mono_read.specs.Reads.{open_in}
use Rattle.mono_read.proofs.Given.{if-ok}
use Rattle.mono_read.proofs.Stacked.{both-put}
use Rattle.mono_read.proofs.parts.push_both.Goals as goal

pub returns : goal.returns
returns c = if-ok _ _ c.push.result (λ u h types strings. both-put types strings _ _ c.in_ok-attempts.attempts.items c.in_ok-last.last c.args.attempt (open_in types strings c.args.taken.steps.items c.args.taken.end) c.in_ok-attempts.ensures (c.in_ok-last.ensures types strings) (h types strings)) c.push.ensures
