use Rattle.mono_bound.specs.Reads.{mono_of}
use Rattle.mono_read.proofs.Given.{if-ok}
use Rattle.mono_read.proofs.Stacked.{packet-put}
use Rattle.mono_read.proofs.parts.put_packet.Goals as goal

pub returns-in-Ok : goal.returns-in-Ok
returns-in-Ok c = if-ok _ _ c.push.result (λ u h types strings. packet-put types strings _ _ _ c.args.packet (mono_of types strings c.in-Ok.handler) (c.in-Ok.ensures types strings) (h types strings)) c.push.ensures
