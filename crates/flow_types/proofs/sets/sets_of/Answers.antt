use Rattle.std.proofs.Common.{refl}
use Rattle.flow_types.proofs.Entered.{sets-next}
use Rattle.flow_types.specs.Kinds.{items_of, empty_sets, sets_in}
use Rattle.flow_types.proofs.sets.sets_of.Goals as goal

pub loop-i-preserved : goal.loop-i-preserved
loop-i-preserved c =
    sets-next c.args.kinds.now c.loop-i.i _ _ (items_of c.loop-i.sets.items) (items_of c.push_function.new.sets.items) (sets_in 0 c.args.kinds.now (empty_sets c.args.count)) c.loop-i-test.true refl c.in_ok-push_function.ensures c.loop-i.invariant
