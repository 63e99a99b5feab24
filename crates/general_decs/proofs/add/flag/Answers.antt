use Rattle.general_decs.proofs.Adding.{flag-ends, flag-next}
use Rattle.general_decs.proofs.add.flag.Goals as goal

pub loop-i-preserved : goal.loop-i-preserved
loop-i-preserved c =
    flag-next c.args.general c.args.bound.now _ c.loop-i.flags.items _ c.loop-i.i c.loop-i-test.true c.loop-i.invariant c.in_ok-push.ensures.items

pub returns : goal.returns
returns c = flag-ends c.args.general c.args.bound.now c.loop-i.flags.items _ c.loop-i.i c.loop-i-test.false c.loop-i.invariant
