use Rattle.std.proofs.Common.{refl}
use Rattle.rec_groups.proofs.Entering.{own-next}
use Rattle.rec_groups.proofs.enter.enter_variables.Goals as goal

pub loop-i-preserved : goal.loop-i-preserved
loop-i-preserved c =
    own-next c.args.context.now c.args.variables.now c.loop-i.i c.index-variables-i.result c.loop-i.context _ c.bind.new.self c.loop-i-test.true c.index-variables-i.is c.loop-i.invariant
    c.in_ok-bind.ensures.bound refl
