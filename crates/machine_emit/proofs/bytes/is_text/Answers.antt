use Rattle.std.proofs.Common.{add-one, ◌<◌}
use Rattle.machine_emit.proofs.Reading.{one-more, at-end}
use Rattle.machine_emit.proofs.bytes.is_text.Goals as goal

pub loop-i-preserved : goal.loop-i-preserved
loop-i-preserved c = rw add-one (one-more (λ b. b < 256) c.args.text.now c.loop-i.i _ c.loop-i-test.true c.loop-i.invariant c.is_byte.ensures)

pub returns : goal.returns
returns c = at-end (λ b. b < 256) c.args.text.now c.loop-i.i c.loop-i-test.false c.loop-i.invariant
