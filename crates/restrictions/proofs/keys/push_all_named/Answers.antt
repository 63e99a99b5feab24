use Rattle.std.proofs.Common.{refl}
use Rattle.restrictions.specs.Nodes.{named_types}
use Rattle.restrictions.proofs.Standing.{list-ends, list-next}
use Rattle.restrictions.proofs.keys.push_all_named.Goals as goal

pub loop-i-init : goal.loop-i-init
loop-i-init c = refl

pub loop-i-preserved : goal.loop-i-preserved
loop-i-preserved c =
    list-next named_types c.args.decs.now c.loop-i.i c.index-decs-i.result c.loop-i.keys.items _ _ c.loop-i-test.true c.index-decs-i.is c.loop-i.invariant c.in_ok-push_named.ensures

pub returns : goal.returns
returns c = list-ends named_types c.args.decs.now c.loop-i.i c.loop-i.keys.items _ c.loop-i-test.false c.loop-i.invariant
