use Rattle.machine_primitives.proofs.LastRows.{sizes}
use Rattle.machine_primitives.proofs.law.sizes.Goals as goal

pub returns : goal.returns
returns c = sizes c.control.ensures c.memory.ensures c.arithmetic.ensures c.begins.ensures
