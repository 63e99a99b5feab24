use Rattle.prog_pats.proofs.of_prog_parts.Truths.{two}
use Rattle.prog_leaves.proofs.atoms.check_reference.Goals as goal

pub returns : goal.returns
returns c = two c.both.ensures c.in_ok-known.ensures c.is_maker-maker.ensures
