use Rattle.machine_primitives.proofs.Rows.{sums}
use Rattle.machine_primitives.proofs.law.sums.Goals as goal

pub returns : goal.returns
returns c = sums c.control.ensures c.memory.ensures c.arithmetic.ensures c.begins.ensures
