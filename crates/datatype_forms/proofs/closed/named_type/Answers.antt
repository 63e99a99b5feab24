use Rattle.std.proofs.Common.{Some, ap, ◌∙◌}
use Rattle.ty_core.specs.Types.{con, name}
use Rattle.ty_table.specs.TypeAt.{types_at}
use Rattle.elab_state.specs.States.{types_in}
use Rattle.datatype_forms.proofs.Stepping.{step_on}
use Rattle.datatype_forms.proofs.closed.named_type.Goals as goal

pub returns-clause-step : goal.returns-clause-step
returns-clause-step c = step_on c.args.state.now c.variables.new.state c.closed_apply.new.state c.in_ok-parts.ensures.step c.in_ok-number.ensures.step

pub returns-clause-is : goal.returns-clause-is
returns-clause-is c = c.in_ok-number.ensures.is ∙ ap (λ ts. Some (con (name c.args.name) ts)) (ap (types_at (types_in c.variables.new.state)) c.deref.ensures.value ∙ c.in_ok-parts.ensures.are)
