use Rattle.elab_worlds.proofs.Ending.{later-may-end}
use Rattle.elab_finish.proofs.Right.{right}
use Rattle.elab_finish.proofs.law.runs_are_right.Goals as goal

pub returns : goal.returns
returns c = λ S T C D ds old new f tells is tidy k o finished same.
    let e = later-may-end S T tidy k is.grows in right S T C D ds old T.level tells is e.last e.constructors o new f finished same
