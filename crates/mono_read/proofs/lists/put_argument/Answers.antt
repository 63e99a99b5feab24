use Rattle.mono_read.proofs.Given.{if-ok}
use Rattle.mono_read.proofs.Stacked.{argument-put}
use Rattle.mono_read.proofs.lists.put_argument.Goals as goal

pub returns : goal.returns
returns c = if-ok _ _ c.push-2.result (λ u h types strings. argument-put types strings _ _ _ c.in_ok-atoms.atoms.items c.push.new.self.items c.args.atom (c.in_ok-atoms.ensures types strings) c.in_ok-push.ensures.items (h types strings)) c.push-2.ensures
