use Rattle.machine_primitives.proofs.MoreRows.{truths}
use Rattle.machine_primitives.proofs.law.truths.Goals as goal

pub returns : goal.returns
returns c = truths c.control.ensures c.memory.ensures c.arithmetic.ensures c.begins.ensures
