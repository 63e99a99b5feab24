use Rattle.std.proofs.Common.{[]}
use Rattle.prog_check.specs.Checking.{decs_onto}
use Rattle.prog_check.proofs.Sound.{decs-sound}
use Rattle.prog_check.proofs.Complete.{decs-complete, decs-after}
use Rattle.prog_check.proofs.law.decides_typing.Goals as goal

pub returns-clause-exactly : goal.returns-clause-exactly
returns-clause-exactly c table ds = (λ h. (decs_onto ds [], decs-sound table [] [] tt ds h), λ k. decs-complete k.1)

pub returns-clause-after : goal.returns-clause-after
returns-clause-after c table ds G k = decs-after k
