use Rattle.mono_read.proofs.Given.{if-ok}
use Rattle.mono_read.proofs.Stacked.{empty-put}
use Rattle.mono_read.proofs.parts.push_empty.Goals as goal

pub returns : goal.returns
returns c = if-ok _ _ c.push.result (λ u h types strings. empty-put types strings c.args.atom c.args.ty c.new-arms.result c.new.result.items _ _ c.new.ensures.items c.new-arms.ensures.items (h types strings)) c.push.ensures
