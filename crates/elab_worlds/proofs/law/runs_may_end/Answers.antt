use Rattle.elab_worlds.proofs.Ending.{runs-may-end}
use Rattle.elab_worlds.proofs.law.runs_may_end.Goals as goal

pub returns : goal.returns
returns c = runs-may-end
