use Rattle.mono_read.proofs.Given.{if-ok}
use Rattle.mono_read.proofs.Stacked.{perform-put}
use Rattle.mono_read.proofs.lists.put_perform.Goals as goal

pub returns : goal.returns
returns c = if-ok _ _ c.push_operation.result (λ u h types strings. perform-put types strings _ _ _ c.args.place c.args.primitive c.args.ty c.in_ok-arguments.arguments.items c.reverse.new.self (c.in_ok-arguments.ensures types strings) c.reverse.ensures.items (h types strings)) c.push_operation.ensures
