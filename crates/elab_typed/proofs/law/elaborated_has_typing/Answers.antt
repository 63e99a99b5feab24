use Rattle.elab_typed.proofs.Typing.{decs-typed}
use Rattle.elab_typed.proofs.law.elaborated_has_typing.Goals as goal

pub returns : goal.returns
returns c = λ table A k ds es made number d r G c j h s fits. decs-typed h s fits
