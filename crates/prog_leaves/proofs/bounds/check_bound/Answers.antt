use Rattle.prog_pats.proofs.of_prog_parts.Truths.{two}
use Rattle.prog_leaves.proofs.bounds.check_bound.Goals as goal

pub returns : goal.returns
returns c = two c.both.ensures c.in_ok-known.ensures c.in_ok-right.ensures
