use Rattle.prog_parts.proofs.Checks.{members-hold, after-holds, decs-hold, decs-run, val-holds}
use Rattle.prog_parts.proofs.law.decides_declarations.Goals as goal

pub returns-clause-members : goal.returns-clause-members
returns-clause-members c = members-hold

pub returns-clause-parameters : goal.returns-clause-parameters
returns-clause-parameters c = after-holds

pub returns-clause-declarations : goal.returns-clause-declarations
returns-clause-declarations c = decs-hold

pub returns-clause-after : goal.returns-clause-after
returns-clause-after c = decs-run

pub returns-clause-groups : goal.returns-clause-groups
returns-clause-groups c = val-holds
