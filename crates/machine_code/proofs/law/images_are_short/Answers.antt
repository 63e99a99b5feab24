use Rattle.machine_code.proofs.Bounds.{code_bound, constants_bound}
use Rattle.machine_code.proofs.law.images_are_short.Goals as goal

pub returns-clause-code : goal.returns-clause-code
returns-clause-code c = code_bound c.short.ensures.equal c.short.ensures.find

pub returns-clause-constants : goal.returns-clause-constants
returns-clause-constants c = constants_bound
