use Rattle.std.proofs.Common.{sym, ap, ◌∙◌}
use Rattle.ty_core.specs.Types.{con, none, more, name}
use Rattle.initial_types.proofs.Making.{is-at, made-by}
use Rattle.basis_context.specs.Basis.{body_with}
use Rattle.basis_context.proofs.Making.{body-one}
use Rattle.basis_context.proofs.tables.named_in.Goals as goal

pub returns-then-name-eq0-clause-is : goal.returns-then-name-eq0-clause-is
returns-then-name-eq0-clause-is c = made-by c.shape_in.result c.shape_in.new.types _ _ (sym (ap (body_with c.args.name) c.if-name-eq0.true)) c.shape_in.ensures.is

pub returns-clause-is : goal.returns-clause-is
returns-clause-is c =
    made-by c.applied.result c.applied.new.types _ _
    (ap (λ t. con (name c.args.name) (more t none)) (is-at c.variable.new.self c.in_ok-parameter.parameter _ c.in_ok-parameter.ensures.held) ∙ sym (body-one c.args.name c.args.name.arity c.if-name-eq0.false))
    c.applied.ensures.is
