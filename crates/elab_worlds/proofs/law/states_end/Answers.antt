use Rattle.elab_worlds.proofs.Final.{state-ends}
use Rattle.elab_worlds.proofs.law.states_end.Goals as goal

pub returns : goal.returns
returns c = state-ends
