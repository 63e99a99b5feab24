use Rattle.prog_leaves.specs.Right.{is_known}
use Rattle.prog_leaves.proofs.bounds.is_known.Goals as goal

pub returns : goal.returns
unfolding is_known
returns c = c.in_ok-known.ensures
