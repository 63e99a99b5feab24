use Rattle.mono_tree.proofs.Once.{once-bound}
use Rattle.mono_tree.proofs.tree.binds_once.Goals as goal

pub returns : goal.returns
returns c = λ t. once-bound t c.args.body.now c.in_ok-once.once c.in_ok-once.ensures
