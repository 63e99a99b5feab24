use Rattle.elab_typed.proofs.Standing.{annotations-stand}
use Rattle.elab_typed.proofs.law.annotations_stand.Goals as goal

pub returns : goal.returns
returns c = annotations-stand
