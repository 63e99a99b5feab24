use Rattle.elab_state.proofs.Typed.{value-stays}
use Rattle.elab_state.proofs.law.values_stay.Goals as goal

pub returns : goal.returns
returns c = λ l k S T g e h. value-stays l k S T g e h
