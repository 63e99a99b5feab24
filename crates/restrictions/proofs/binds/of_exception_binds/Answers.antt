use Rattle.restrictions.specs.Nodes.{ex_bind_places}
use Rattle.restrictions.proofs.Standing.{comes-first, comes-last, comes-next}
use Rattle.restrictions.proofs.binds.of_exception_binds.Goals as goal

pub loop-i-init : goal.loop-i-init
loop-i-init c = comes-first ex_bind_places c.args.binds.now c.args.found.now.items

pub loop-i-preserved : goal.loop-i-preserved
loop-i-preserved c =
    comes-next ex_bind_places c.args.binds.now c.loop-i.i c.index-binds-i.result c.args.found.now.items c.loop-i.found.items _ c.loop-i-test.true c.index-binds-i.is c.loop-i.invariant
    c.in_ok-of_exception.ensures

pub returns : goal.returns
returns c = comes-last ex_bind_places c.args.binds.now c.loop-i.i c.args.found.now.items c.loop-i.found.items c.loop-i-test.false c.loop-i.invariant
