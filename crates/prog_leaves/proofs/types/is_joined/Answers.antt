use Rattle.prog_pats.proofs.of_prog_parts.Truths.{two}
use Rattle.prog_leaves.specs.Right.{joined}
use Rattle.prog_leaves.proofs.types.is_joined.Goals as goal

pub returns : goal.returns
unfolding joined
returns c = two c.both.ensures c.is_pair-pair.ensures c.is_operator-operator.ensures
