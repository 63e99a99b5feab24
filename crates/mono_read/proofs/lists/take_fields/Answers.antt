use Rattle.mono_read.proofs.Stacked.{row-top, row-end}
use Rattle.mono_read.proofs.lists.take_fields.Goals as goal

pub returns-in-Fields : goal.returns-in-Fields
returns-in-Fields c = λ types strings f. row-top types strings _ _ c.in_ok-fields.field-0 c.in-Fields.fields f (c.in_ok-fields.ensures types strings) c.in-Fields.is

pub returns-in-End : goal.returns-in-End
returns-in-End c = λ types strings f. row-end types strings _ _ c.in_ok-fields.field-0 c.new.result.items f (c.in_ok-fields.ensures types strings) c.in-End.is c.new.ensures.items
