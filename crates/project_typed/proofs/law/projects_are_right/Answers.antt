use Rattle.project_typed.proofs.Whole.{projects-right}
use Rattle.project_typed.proofs.law.projects_are_right.Goals as goal

pub returns : goal.returns
returns c = projects-right
