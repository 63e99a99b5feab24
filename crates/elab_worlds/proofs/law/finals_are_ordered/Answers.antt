use Rattle.elab_worlds.proofs.Final.{finals-ordered}
use Rattle.elab_worlds.proofs.law.finals_are_ordered.Goals as goal

pub returns : goal.returns
returns c = finals-ordered
