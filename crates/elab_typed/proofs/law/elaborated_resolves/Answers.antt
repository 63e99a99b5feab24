use Rattle.elab_typed.proofs.Resolving.{decs-to}
use Rattle.elab_typed.proofs.law.elaborated_resolves.Goals as goal

pub returns : goal.returns
returns c = λ table A k ds es made number d r G c j h. decs-to h
