use Rattle.machine_primitives.proofs.MoreRows.{conversions}
use Rattle.machine_primitives.proofs.law.conversions.Goals as goal

pub returns : goal.returns
returns c = conversions c.control.ensures c.memory.ensures c.arithmetic.ensures c.begins.ensures
