use Rattle.prog_parts.proofs.Truths.{two}
use Rattle.prog_pats.proofs.heads.check_packet.Goals as goal

pub returns : goal.returns
returns c = two c.both.ensures c.takes-known.ensures c.is_packet-packet.ensures
