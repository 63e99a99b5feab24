use Rattle.machine_primitives.proofs.Divisions.{divisions}
use Rattle.machine_primitives.proofs.law.divisions.Goals as goal

pub returns : goal.returns
returns c = divisions c.control.ensures c.memory.ensures c.arithmetic.ensures c.begins.ensures c.division_is_floored.ensures
