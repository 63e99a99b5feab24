use Rattle.std.proofs.Common.{[], ◌∷◌, ap, ap₂, ◌∙◌}
use Rattle.first_values.specs.Operations as op
use Rattle.ir_first.specs.Tree as out
use Rattle.closure_parts.proofs.Operating.{if-ok}
use Rattle.closure_parts.proofs.Putting.{marked-let}
use Rattle.closure_parts.proofs.operation.push_pack.Goals as goal

pub returns : goal.returns
returns c =
    if-ok _ _ c.push_let.result
    (λ u p. marked-let c.args.steps.now.items c.push_turn.new.steps.items c.push_let.new.steps.items c.args.place c.args.name _ _ c.in_ok-push_turn.ensures
    (ap (out.plain op.pack) (c.in_ok-operands.ensures ∙ ap₂ (λ y a. y ∷ a ∷ []) c.in_ok-exception.ensures c.in_ok-argument.ensures)) p)
    c.push_let.ensures
