use Rattle.elab_typed.proofs.Whole.{program-right}
use Rattle.elab_typed.proofs.law.elaboration_is_right.Goals as goal

pub returns : goal.returns
returns c = program-right
