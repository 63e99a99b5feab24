use Rattle.machine_primitives.proofs.LastRows.{contraries}
use Rattle.machine_primitives.proofs.law.contraries.Goals as goal

pub returns : goal.returns
returns c = contraries c.control.ensures c.memory.ensures c.arithmetic.ensures c.begins.ensures
