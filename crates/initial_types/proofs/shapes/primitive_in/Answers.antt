use Rattle.std.proofs.Common.{◌∙◌, ap, ap₂}
use Rattle.ty_basis.specs.Types.{function_type}
use Rattle.ty_basis.specs.Primitives.{tuple_type}
use Rattle.initial_types.proofs.Making.{held-since, is-since, is-at, made-by}
use Rattle.initial_types.proofs.shapes.primitive_in.Goals as goal

pub function-requires-clause-from : goal.function-requires-clause-from
function-requires-clause-from c = held-since _ _ _ _ c.in_ok-from.ensures.is c.in_ok-to.ensures.earlier_stay

pub returns-clause-is : goal.returns-clause-is
returns-clause-is c =
    made-by c.function.result c.function.new.types _ _
    (ap₂ function_type (is-since _ _ _ _ c.in_ok-from.ensures.is c.in_ok-to.ensures.earlier_stay) (is-at c.shape_in.new.types c.in_ok-to.to _ c.in_ok-to.ensures.is)
    ∙ ap (λ p. function_type (tuple_type p.arguments) p.result) c.primitive_type-signature.ensures)
    c.function.ensures.is
