use Rattle.elab_worlds.proofs.Final.{final-comes}
use Rattle.elab_worlds.proofs.law.finals_come.Goals as goal

pub returns : goal.returns
returns c = final-comes
