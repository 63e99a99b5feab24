use Rattle.machine_routines.proofs.Finds.{way_finds, finds_members}
use Rattle.machine_routines.proofs.law.find.Goals as goal

pub returns-clause-any : goal.returns-clause-any
returns-clause-any c = way_finds c.control.ensures c.memory.ensures c.arithmetic.ensures c.begins.ensures

pub returns-clause-member : goal.returns-clause-member
returns-clause-member c = finds_members c.control.ensures c.memory.ensures c.arithmetic.ensures c.begins.ensures
