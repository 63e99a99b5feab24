use Rattle.std.proofs.Common.{arith}
use Rattle.elab_worlds.proofs.Ordering.{below-more}
use Rattle.elab_worlds.proofs.ordered.are_below.Goals as goal

pub loop-i-preserved : goal.loop-i-preserved
loop-i-preserved c = below-more c.args.bound c.args.numbers.now c.loop-i.i 0 c.loop-i-test.true (omega (arith, c.if-numbers-i.false)) c.loop-i.invariant
