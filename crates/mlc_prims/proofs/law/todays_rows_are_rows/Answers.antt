use Rattle.mlc_prims.proofs.Rows.{todays-rows-are-rows}
use Rattle.mlc_prims.proofs.law.todays_rows_are_rows.Goals as goal

pub returns : goal.returns
returns c = todays-rows-are-rows
