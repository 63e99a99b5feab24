use Rattle.elab_finish.proofs.Right.{made-right}
use Rattle.elab_finish.proofs.law.made_programs_are_right.Goals as goal

pub returns : goal.returns
returns c = λ S T C D ds old l p tells is last k o w. made-right S T C D ds old l tells is last k o p w
