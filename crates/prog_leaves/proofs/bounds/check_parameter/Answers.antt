use Rattle.std.proofs.Common.{refl}
use Rattle.prog_leaves.proofs.bounds.check_parameter.Goals as goal

pub returns-clause-right : goal.returns-clause-right
returns-clause-right c = c.in_ok-known.ensures

pub returns-clause-adds : goal.returns-clause-adds
returns-clause-adds c = record { parameters = refl; onto = c.in_ok-bind_one.ensures }
