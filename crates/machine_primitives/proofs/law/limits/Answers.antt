use Rattle.machine_primitives.proofs.LastRows.{limits}
use Rattle.machine_primitives.proofs.law.limits.Goals as goal

pub returns : goal.returns
returns c = limits c.control.ensures c.memory.ensures c.arithmetic.ensures c.begins.ensures
