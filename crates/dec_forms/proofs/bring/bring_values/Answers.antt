use Rattle.std.proofs.Common.{refl}
use Rattle.dec_forms.proofs.Coming.{values-next}
use Rattle.dec_forms.proofs.bring.bring_values.Goals as goal

pub loop-i-preserved : goal.loop-i-preserved
loop-i-preserved c =
    values-next c.args.context.now c.args.values.now c.loop-i.i c.index-values-i.result c.loop-i.context _ c.bind.new.self c.loop-i-test.true c.index-values-i.is c.loop-i.invariant
    c.in_ok-bind.ensures.bound refl
