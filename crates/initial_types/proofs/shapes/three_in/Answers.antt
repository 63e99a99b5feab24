use Rattle.ty_instance.proofs.Going.{stays-on}
use Rattle.initial_types.proofs.Making.{held-since, is-since, is-at, made-by, triples}
use Rattle.initial_types.proofs.shapes.three_in.Goals as goal

pub triple-requires-clause-first : goal.triple-requires-clause-first
triple-requires-clause-first c = held-since _ _ _ _ c.in_ok-first.ensures.is (stays-on _ _ _ c.in_ok-second.ensures.earlier_stay c.in_ok-third.ensures.earlier_stay)

pub triple-requires-clause-second : goal.triple-requires-clause-second
triple-requires-clause-second c = held-since _ _ _ _ c.in_ok-second.ensures.is c.in_ok-third.ensures.earlier_stay

pub returns-clause-is : goal.returns-clause-is
returns-clause-is c =
    made-by c.triple.result c.triple.new.types _ _
    (triples _ _ _ _ _ _ (is-since _ _ _ _ c.in_ok-first.ensures.is (stays-on _ _ _ c.in_ok-second.ensures.earlier_stay c.in_ok-third.ensures.earlier_stay))
    (is-since _ _ _ _ c.in_ok-second.ensures.is c.in_ok-third.ensures.earlier_stay) (is-at c.shape_in-3.new.types c.in_ok-third.third _ c.in_ok-third.ensures.is))
    c.triple.ensures.is
