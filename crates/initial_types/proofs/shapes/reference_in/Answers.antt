use Rattle.std.proofs.Common.{ap}
use Rattle.ty_basis.specs.Types.{ref_type}
use Rattle.initial_types.proofs.Making.{is-at, made-by}
use Rattle.initial_types.proofs.shapes.reference_in.Goals as goal

pub returns-clause-is : goal.returns-clause-is
returns-clause-is c = made-by c.applied.result c.applied.new.types _ _ (ap ref_type (is-at c.variable.new.self c.in_ok-parameter.parameter _ c.in_ok-parameter.ensures.held)) c.applied.ensures.is
