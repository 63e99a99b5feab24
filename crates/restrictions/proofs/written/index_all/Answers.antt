use Rattle.std.proofs.Common.{◌-◌, ◌∷◌, refl, ap, ◌∙◌}
use Rattle.restrictions.proofs.Lists.{indexed-first, indexed-last, indexed-next}
use Rattle.restrictions.proofs.written.index_all.Goals as goal

pub loop-i-init : goal.loop-i-init
loop-i-init c = indexed-first c.args.binds.now _ c.args.index.now refl

pub loop-i-preserved : goal.loop-i-preserved
loop-i-preserved c =
    indexed-next c.args.binds.now c.loop-i.i c.index-binds-i.result c.args.index.now c.loop-i.index c.bind.new.self c.loop-i.invariant c.loop-i-test.true c.index-binds-i.is
    (c.in_ok-bind.ensures.bound ∙ ap (λ k. (k, c.loop-i.i - 1) ∷ c.loop-i.index) c.number.ensures)

pub returns : goal.returns
returns c = indexed-last c.args.binds.now c.loop-i.i c.args.index.now c.loop-i.index c.loop-i.invariant c.loop-i-test.false
