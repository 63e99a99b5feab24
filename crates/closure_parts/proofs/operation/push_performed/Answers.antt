use Rattle.std.proofs.Common.{ap, ◌∙◌}
use Rattle.ir_values.specs.Primitives.{sort_of}
use Rattle.closure_meaning.specs.Convert.{performed}
use Rattle.closure_parts.proofs.Operating.{if-ok}
use Rattle.closure_parts.proofs.Putting.{marked-let}
use Rattle.closure_parts.proofs.operation.push_performed.Goals as goal

pub returns : goal.returns
returns c =
    if-ok _ _ c.push_let.result
    (λ u p. marked-let c.args.steps.now.items c.push_turn.new.steps.items c.push_let.new.steps.items c.args.place c.args.name _ _ c.in_ok-push_turn.ensures
    (c.performed.ensures ∙ ap (performed c.args.types.now (sort_of c.args.primitive) c.args.primitive c.args.ty) c.in_ok-arguments.ensures) p)
    c.push_let.ensures
