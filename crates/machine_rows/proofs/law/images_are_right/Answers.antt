use Rattle.machine_rows.specs.Table.{rows}
use Rattle.machine_rows.proofs.law.images_are_right.Goals as goal

pub returns : goal.returns
returns c = λ texts p well fit never heap stack small few. c.code_is_right.ensures rows c.rows_are_right.ensures texts p well fit never heap stack small few
