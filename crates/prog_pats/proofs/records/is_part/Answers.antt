use Rattle.prog_parts.proofs.Truths.{two}
use Rattle.prog_pats.proofs.records.is_part.Goals as goal

pub returns : goal.returns
returns c = two c.both.ensures c.has_part-there.ensures c.in_ok-known.ensures
