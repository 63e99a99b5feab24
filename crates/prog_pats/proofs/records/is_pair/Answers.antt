use Rattle.prog_parts.proofs.Truths.{two}
use Rattle.prog_pats.proofs.records.is_pair.Goals as goal

pub returns : goal.returns
returns c = two c.both-2.ensures c.in_ok-first.ensures (two c.both.ensures c.in_ok-second.ensures c.has_size-two.ensures)
