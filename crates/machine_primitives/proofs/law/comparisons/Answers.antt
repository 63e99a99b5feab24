use Rattle.machine_primitives.proofs.Rows.{comparisons}
use Rattle.machine_primitives.proofs.law.comparisons.Goals as goal

pub returns : goal.returns
returns c = comparisons c.control.ensures c.memory.ensures c.arithmetic.ensures c.begins.ensures
