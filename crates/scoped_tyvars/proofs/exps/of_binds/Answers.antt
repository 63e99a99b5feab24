use Rattle.std.proofs.Common.{refl}
use Rattle.scoped_tyvars.specs.Unguarded.{bind_tyvars}
use Rattle.scoped_tyvars.proofs.Listing.{both-parts, list-ends, list-next}
use Rattle.scoped_tyvars.proofs.exps.of_binds.Goals as goal

pub loop-i-init : goal.loop-i-init
loop-i-init c = refl

pub loop-i-preserved : goal.loop-i-preserved
loop-i-preserved c =
    list-next bind_tyvars c.args.binds.now c.loop-i.i c.index-binds-i.result c.loop-i.found.items _ _ c.loop-i-test.true c.index-binds-i.is c.loop-i.invariant (both-parts c.loop-i.found.items _ _ _ _ _ c.in_ok-of_pat.ensures c.in_ok-of_exp.ensures refl)

pub returns : goal.returns
returns c = list-ends bind_tyvars c.args.binds.now c.loop-i.i c.loop-i.found.items _ c.loop-i-test.false c.loop-i.invariant
