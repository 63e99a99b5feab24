use Rattle.mono_read.proofs.Given.{if-ok}
use Rattle.mono_read.proofs.Stacked.{last-put}
use Rattle.mono_read.proofs.parts.put_last.Goals as goal

pub returns-in-Ok : goal.returns-in-Ok
returns-in-Ok c = if-ok _ _ c.push.result (λ u h types strings. last-put types strings _ _ _ c.args.last c.new.result.items c.in-Ok.body c.new.ensures.items (c.in-Ok.ensures types strings) (h types strings)) c.push.ensures
