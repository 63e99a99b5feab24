use Rattle.mono_read.proofs.Given.{if-ok}
use Rattle.mono_read.proofs.Stacked.{head-put}
use Rattle.mono_read.proofs.lists.put_head.Goals as goal

pub returns : goal.returns
returns c = if-ok _ _ c.push-2.result (λ u h types strings. head-put types strings _ _ _ c.in_ok-heads.heads.items c.push.new.self.items (record { variable = c.args.variable; ty = c.args.ty }) (c.in_ok-heads.ensures types strings) c.in_ok-push.ensures.items (h types strings)) c.push-2.ensures
