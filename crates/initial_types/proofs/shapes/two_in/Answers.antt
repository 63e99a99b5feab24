use Rattle.std.proofs.Common.{ap₂}
use Rattle.ty_basis.specs.Types.{pair_type}
use Rattle.initial_types.proofs.Making.{held-since, is-since, is-at, made-by}
use Rattle.initial_types.proofs.shapes.two_in.Goals as goal

pub pair-requires-clause-first : goal.pair-requires-clause-first
pair-requires-clause-first c = held-since _ _ _ _ c.in_ok-first.ensures.is c.in_ok-second.ensures.earlier_stay

pub returns-clause-is : goal.returns-clause-is
returns-clause-is c =
    made-by c.pair.result c.pair.new.types _ _ (ap₂ pair_type (is-since _ _ _ _ c.in_ok-first.ensures.is c.in_ok-second.ensures.earlier_stay) (is-at c.shape_in-2.new.types c.in_ok-second.second _ c.in_ok-second.ensures.is))
    c.pair.ensures.is
