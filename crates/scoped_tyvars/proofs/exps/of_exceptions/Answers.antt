use Rattle.std.proofs.Common.{refl}
use Rattle.scoped_tyvars.specs.Unguarded.{exn_tyvars}
use Rattle.scoped_tyvars.proofs.Listing.{list-ends, list-next}
use Rattle.scoped_tyvars.proofs.exps.of_exceptions.Goals as goal

pub loop-i-init : goal.loop-i-init
loop-i-init c = refl

pub loop-i-preserved : goal.loop-i-preserved
loop-i-preserved c =
    list-next exn_tyvars c.args.binds.now c.loop-i.i c.index-binds-i.result c.loop-i.found.items _ _ c.loop-i-test.true c.index-binds-i.is c.loop-i.invariant c.in_ok-of_exception.ensures

pub returns : goal.returns
returns c = list-ends exn_tyvars c.args.binds.now c.loop-i.i c.loop-i.found.items _ c.loop-i-test.false c.loop-i.invariant
