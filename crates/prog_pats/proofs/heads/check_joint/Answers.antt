use Rattle.prog_parts.proofs.Truths.{two}
use Rattle.prog_pats.proofs.heads.check_joint.Goals as goal

pub returns : goal.returns
returns c = two c.both-2.ensures c.in_ok-fits.ensures (two c.both.ensures c.in_ok-known.ensures c.in_ok-two.ensures)
