use Rattle.mlc_program.proofs.Tellings.{told_first, told_both}
use Rattle.mlc_program.proofs.say.say_both.Goals as goal

pub returns-in-Failed : goal.returns-in-Failed
returns-in-Failed g c = rw (← c.as_bytes.ensures.value) (told_first _ c.args.second.now _ _ _ _ c.in-Failed.ensures)

pub returns-in-Done : goal.returns-in-Done
returns-in-Done g c = rw (← c.as_bytes.ensures.value, ← c.as_bytes-in-Done.ensures.value) (told_both _ _ _ _ _ _ _ _ c.put-in-Done.result c.in-Done.ensures c.put-in-Done.ensures)
