use Rattle.elab_state.proofs.Typed.{value-over}
use Rattle.elab_state.proofs.law.values_are_over.Goals as goal

pub returns : goal.returns
returns c = λ l k S D g lt h t. value-over l k S D g lt h t
