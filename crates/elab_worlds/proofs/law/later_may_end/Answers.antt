use Rattle.elab_worlds.proofs.Ending.{later-may-end}
use Rattle.elab_worlds.proofs.law.later_may_end.Goals as goal

pub returns : goal.returns
returns c = later-may-end
