use Rattle.elab_state.proofs.Typed.{type-later}
use Rattle.elab_state.proofs.law.types_stay.Goals as goal

pub returns : goal.returns
returns c = λ l k S T e h. type-later l k S T e h
