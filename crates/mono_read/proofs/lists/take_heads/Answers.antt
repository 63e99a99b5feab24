use Rattle.mono_read.proofs.Stacked.{heads-top, heads-end}
use Rattle.mono_read.proofs.lists.take_heads.Goals as goal

pub returns-in-Heads : goal.returns-in-Heads
returns-in-Heads c = λ types strings f. heads-top types strings _ _ c.in_ok-heads.field-0 c.in-Heads.heads f (c.in_ok-heads.ensures types strings) c.in-Heads.is

pub returns-in-End : goal.returns-in-End
returns-in-End c = λ types strings f. heads-end types strings _ _ c.in_ok-heads.field-0 c.new.result.items f (c.in_ok-heads.ensures types strings) c.in-End.is c.new.ensures.items
