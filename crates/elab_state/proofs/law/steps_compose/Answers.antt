use Rattle.elab_state.proofs.Extending.{extends-on, extends-outside}
use Rattle.elab_state.proofs.law.steps_compose.Goals as goal

pub returns : goal.returns
returns c = λ l m S T U le h k. extends-on l S T U h (extends-outside l m T U le k)
