use Rattle.std.proofs.Common.{map, refl, ap, ◌++◌, ◌∙◌}
use Rattle.restrictions.specs.Keys.{con_key}
use Rattle.restrictions.proofs.Standing.{list-ends, list-next}
use Rattle.restrictions.proofs.datas.push_all_cons.Goals as goal

pub loop-i-init : goal.loop-i-init
loop-i-init c = refl

pub loop-i-preserved : goal.loop-i-preserved
loop-i-preserved c =
    list-next (λ d. map con_key d.cons.items) c.args.datas.now c.loop-i.i c.index-datas-i.result c.loop-i.keys.items _ _ c.loop-i-test.true c.index-datas-i.is c.loop-i.invariant
    (c.in_ok-push_cons.ensures ∙ ap (λ l. c.loop-i.keys.items ++ map con_key l) c.deref.ensures.value)

pub returns : goal.returns
returns c = list-ends (λ d. map con_key d.cons.items) c.args.datas.now c.loop-i.i c.loop-i.keys.items _ c.loop-i-test.false c.loop-i.invariant
