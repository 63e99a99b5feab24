use Rattle.machine_primitives.proofs.IntRows.{int_rows}
use Rattle.machine_primitives.proofs.law.int_rows.Goals as goal

pub returns : goal.returns
returns c = int_rows c.control.ensures c.memory.ensures c.arithmetic.ensures c.begins.ensures
