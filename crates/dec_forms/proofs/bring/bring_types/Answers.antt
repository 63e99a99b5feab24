use Rattle.std.proofs.Common.{refl}
use Rattle.dec_forms.proofs.Coming.{types-next}
use Rattle.dec_forms.proofs.bring.bring_types.Goals as goal

pub loop-i-preserved : goal.loop-i-preserved
loop-i-preserved c =
    types-next c.args.context.now c.args.types.now c.loop-i.i c.index-types-i.result c.loop-i.context _ c.bind_type.new.self c.loop-i-test.true c.index-types-i.is c.loop-i.invariant
    c.in_ok-bind_type.ensures.tyvars c.in_ok-bind_type.ensures.bound refl
