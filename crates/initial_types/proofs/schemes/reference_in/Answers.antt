use Rattle.std.proofs.Common.{ap, ap₂, ◌∙◌}
use Rattle.ty_basis.specs.Types.{function_type, ref_type}
use Rattle.initial_types.proofs.Making.{held-since, is-since, is-at, made-by}
use Rattle.initial_types.proofs.schemes.reference_in.Goals as goal

pub function-requires-clause-from : goal.function-requires-clause-from
function-requires-clause-from c = held-since _ _ _ _ c.in_ok-parameter.ensures.held c.in_ok-reference.ensures.earlier_stay

pub returns-clause-is : goal.returns-clause-is
returns-clause-is c =
    made-by c.function.result c.function.new.types _ _
    (ap₂ function_type (is-since _ _ _ _ c.in_ok-parameter.ensures.held c.in_ok-reference.ensures.earlier_stay)
    (is-at c.applied.new.types c.in_ok-reference.reference _ c.in_ok-reference.ensures.is ∙ ap ref_type (is-at c.variable.new.self c.in_ok-parameter.parameter _ c.in_ok-parameter.ensures.held)))
    c.function.ensures.is
