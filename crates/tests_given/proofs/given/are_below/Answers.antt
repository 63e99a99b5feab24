use Rattle.std.proofs.Common.{arith}
use Rattle.tests_given.proofs.Below.{one-more, none-left}
use Rattle.tests_given.proofs.given.are_below.Goals as goal

pub loop-i-preserved : goal.loop-i-preserved
loop-i-preserved c = λ h. c.loop-i.invariant (one-more c.args.len c.args.numbers.now c.loop-i.i _ c.loop-i-test.true (c.is_below.ensures.0 c.if-not-is_below.false) h)

pub returns : goal.returns
returns c = λ _. c.loop-i.invariant (none-left c.args.len c.args.numbers.now c.loop-i.i (omega arith))
