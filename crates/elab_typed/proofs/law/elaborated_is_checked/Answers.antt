use Rattle.elab_typed.proofs.Checking.{decs-checked}
use Rattle.elab_typed.proofs.law.elaborated_is_checked.Goals as goal

pub returns : goal.returns
returns c = λ table A k ds es made number d r G c j i h. decs-checked h i
