use Rattle.machine_primitives.proofs.MoreRows.{bits}
use Rattle.machine_primitives.proofs.law.bits.Goals as goal

pub returns : goal.returns
returns c = bits c.control.ensures c.memory.ensures c.arithmetic.ensures c.begins.ensures
