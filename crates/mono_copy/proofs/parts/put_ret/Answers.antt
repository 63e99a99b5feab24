use Rattle.std.proofs.Common.{[]}
use Rattle.mono_parts.proofs.of_mono_state.Going.{if-both}
use Rattle.mono_copy.proofs.Leaves.{ret-puts}
use Rattle.mono_copy.proofs.parts.put_ret.Goals as goal

pub put-requires : goal.put-requires
put-requires c = (c.in_ok-k.ensures.goes []).open_

pub returns : goal.returns
returns c =
    if-both c.put.result (λ x g p. ret-puts c.args.variable c.in_ok-k.k c.in_ok-k.ensures.goes c.in_ok-k.ensures.noted c.in_ok-k.ensures.is g p)
    c.put.ensures.goes c.put.ensures.put
