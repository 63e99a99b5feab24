use Rattle.std.proofs.Common.{refl}
use Rattle.dec_forms.proofs.Declaring.{plain-next}
use Rattle.dec_forms.proofs.declare_values.bind_plain.Goals as goal

pub loop-i-preserved : goal.loop-i-preserved
loop-i-preserved c =
    plain-next c.args.context.now c.args.list c.args.bound.now c.loop-i.i c.index-bound-i.result c.loop-i.context _ c.bind.new.self c.loop-i-test.true c.index-bound-i.is c.loop-i.invariant
    c.in_ok-bind.ensures.bound refl
