use Rattle.machine_routines.proofs.Sizes.{equal_is_short, find_is_short}
use Rattle.machine_routines.proofs.law.short.Goals as goal

pub returns-clause-equal : goal.returns-clause-equal
returns-clause-equal c = equal_is_short

pub returns-clause-find : goal.returns-clause-find
returns-clause-find c = find_is_short
