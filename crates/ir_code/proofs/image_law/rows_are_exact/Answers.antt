use Rattle.ir_code.proofs.Rows.{rows_exact, one_instr}
use Rattle.ir_code.proofs.image_law.rows_are_exact.Goals as goal

pub returns-clause-told : goal.returns-clause-told
returns-clause-told c = rows_exact

pub returns-clause-one : goal.returns-clause-one
returns-clause-one c = one_instr
