use Rattle.std.proofs.Common.{[]}
use Rattle.mono_parts.proofs.of_mono_state.Going.{if-both}
use Rattle.mono_copy.proofs.Leaves.{packet-puts}
use Rattle.mono_copy.proofs.parts.put_packet.Goals as goal

pub alone-requires : goal.alone-requires
alone-requires c = (c.leave_variable.ensures.goes []).open_

pub put-requires : goal.put-requires
put-requires c = (c.in_ok-k.ensures.goes []).open_

pub returns : goal.returns
returns c =
    if-both c.put.result
    (λ x g p. packet-puts c.args.variable c.in_ok-k.k c.leave_variable.ensures.goes c.leave_variable.ensures.left c.in_ok-k.ensures.goes c.in_ok-k.ensures.stays c.in_ok-k.ensures.is g p)
    c.put.ensures.goes c.put.ensures.put
