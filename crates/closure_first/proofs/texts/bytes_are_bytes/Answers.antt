use Rattle.std.proofs.Common.{refl}
use Rattle.closure_first.specs.Held.{IsByte}
use Rattle.closure_first.proofs.Holding.{all-next, all-done}
use Rattle.closure_first.proofs.texts.bytes_are_bytes.Goals as goal

pub loop-i-preserved : goal.loop-i-preserved
loop-i-preserved c = all-next IsByte c.args.text.now c.loop-i.i _ _ c.loop-i-test.true refl c.is_byte.ensures c.loop-i.invariant

pub returns : goal.returns
returns c = all-done IsByte c.args.text.now c.loop-i.i c.loop-i-test.false c.loop-i.invariant
