use Rattle.mono_bound.specs.Reads.{mono_of}
use Rattle.mono_read.specs.declared.stack.Item.TheVariants as item
use Rattle.mono_read.proofs.Given.{if-ok}
use Rattle.mono_read.proofs.Stacked.{top, handler-taken}
use Rattle.mono_read.proofs.parts.add_handle.Goals as goal

pub returns-in-Handler : goal.returns-in-Handler
returns-in-Handler c = if-ok _ _ c.bind_handle.result (λ u h types strings. handler-taken types strings _ _ _ c.in-Handler.packet (mono_of types strings c.args.body) (mono_of types strings c.in-Handler.handler) (top types strings _ _ c.in_ok-packet.field-0 (item.Handler c.in-Handler.packet c.in-Handler.handler) (c.in_ok-packet.ensures types strings) c.in-Handler.is) (h types strings)) c.bind_handle.ensures
