use Rattle.mono_read.proofs.Given.{if-ok}
use Rattle.mono_read.proofs.Stacked.{record-put}
use Rattle.mono_read.proofs.lists.put_record.Goals as goal

pub returns : goal.returns
returns c = if-ok _ _ c.push_operation.result (λ u h types strings. record-put types strings _ _ _ c.args.ty c.in_ok-fields.fields.items c.reverse.new.self (c.in_ok-fields.ensures types strings) c.reverse.ensures.items (h types strings)) c.push_operation.ensures
