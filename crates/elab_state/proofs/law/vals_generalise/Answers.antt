use Rattle.elab_state.proofs.Generalising.{inner-solution}
use Rattle.elab_state.proofs.law.vals_generalise.Goals as goal

pub returns : goal.returns
returns c = λ n s b e ps qs l D g h k a w i. inner-solution n s b e ps qs l D g h k a w i
