use Rattle.std.proofs.Common.{refl}
use Rattle.exp_weights.proofs.Counting.{counted_is}
use Rattle.exp_weights.proofs.counted.counted.Goals as goal

pub returns : goal.returns
returns c S C e q h = counted_is S c.args.state.now c.write.new.state C c.args.context.now e c.args.made _ c.args.nodes
    c.in_ok-written.written c.in_ok-exp.exp q h c.in_ok-written.ensures.grows c.in_ok-written.ensures.is c.in_ok-exp.ensures refl refl
