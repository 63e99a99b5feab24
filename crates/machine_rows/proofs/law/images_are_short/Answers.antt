use Rattle.machine_rows.proofs.Bounds.{rows_short, code_short}
use Rattle.machine_rows.proofs.law.images_are_short.Goals as goal

pub returns-clause-rows : goal.returns-clause-rows
returns-clause-rows c = rows_short

pub returns-clause-code : goal.returns-clause-code
returns-clause-code c = code_short c.rows_are_right.ensures c.short.ensures.equal c.short.ensures.find
