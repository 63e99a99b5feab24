use Rattle.core_elab.proofs.Initial.{project-kept}
use Rattle.core_elab.proofs.law.project_kept.Goals as goal

pub returns : goal.returns
returns c = project-kept
