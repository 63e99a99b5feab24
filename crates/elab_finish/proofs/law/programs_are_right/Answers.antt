use Rattle.elab_finish.proofs.Right.{right}
use Rattle.elab_finish.proofs.law.programs_are_right.Goals as goal

pub returns : goal.returns
returns c = λ S T C D ds old new l f tells is last k o finished same. right S T C D ds old l tells is last k o new f finished same
