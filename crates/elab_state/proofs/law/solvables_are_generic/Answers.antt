use Rattle.elab_state.proofs.Existing.{solution}
use Rattle.elab_state.proofs.law.solvables_are_generic.Goals as goal

pub returns : goal.returns
returns c = λ S e h. solution S e h
