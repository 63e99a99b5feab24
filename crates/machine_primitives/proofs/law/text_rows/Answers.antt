use Rattle.machine_primitives.proofs.TextJoins.{text_rows}
use Rattle.machine_primitives.proofs.law.text_rows.Goals as goal

pub returns : goal.returns
returns c = text_rows c.control.ensures c.memory.ensures c.arithmetic.ensures c.begins.ensures
