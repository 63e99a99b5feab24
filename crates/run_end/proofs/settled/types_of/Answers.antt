use Rattle.run_end.proofs.Settling.{types-next}
use Rattle.run_end.proofs.settled.types_of.Goals as goal

pub loop-i-preserved : goal.loop-i-preserved
loop-i-preserved c =
    types-next c.args.values.now c.loop-i.i c.index-values-i.result c.loop-i.types.items _ c.loop-i-test.true c.index-values-i.is c.loop-i.invariant
    c.in_ok-add_type.ensures
