use Rattle.initial_types.proofs.Making.{made-none, made-more, made-all}
use Rattle.initial_types.proofs.schemes.schemes.Goals as goal

pub loop-i-init : goal.loop-i-init
loop-i-init c = made-none _ _ c.new-made.ensures.items

pub loop-i-preserved : goal.loop-i-preserved
loop-i-preserved c =
    made-more _ _ _ _ _ _ _ _ c.mark_in-mark.result c.in_ok-body.body c.loop-i-test.true c.loop-i.invariant c.in_ok-body.ensures.earlier_stay c.in_ok-body.ensures.is
    c.mark_in-mark.ensures c.in_ok-push.ensures.items

pub returns-clause-are : goal.returns-clause-are
returns-clause-are c = made-all _ _ _ _ _ c.loop-i-test.false c.loop-i.invariant
