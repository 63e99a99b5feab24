use Rattle.mono_tree.proofs.Once.{weighed}
use Rattle.mono_tree.proofs.tree.nodes.Goals as goal

pub returns : goal.returns
returns c = λ t. weighed t c.args.body.now c.nodes.result c.nodes.ensures
