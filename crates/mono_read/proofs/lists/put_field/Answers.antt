use Rattle.mono_read.proofs.Given.{if-ok}
use Rattle.mono_read.proofs.Stacked.{field-put}
use Rattle.mono_read.proofs.lists.put_field.Goals as goal

pub returns : goal.returns
returns c = if-ok _ _ c.push-2.result (λ u h types strings. field-put types strings _ _ _ c.in_ok-fields.fields.items c.push.new.self.items c.args.field (c.in_ok-fields.ensures types strings) c.in_ok-push.ensures.items (h types strings)) c.push-2.ensures
