use Rattle.std.proofs.Common.{ap, ◌∙◌}
use Rattle.closure_parts.specs.Pieces.{a_make}
use Rattle.closure_parts.proofs.Operating.{if-ok}
use Rattle.closure_parts.proofs.Putting.{marked-let}
use Rattle.closure_parts.proofs.operation.push_construct.Goals as goal

pub returns : goal.returns
returns c =
    if-ok _ _ c.push_let.result
    (λ u p. marked-let c.args.steps.now.items c.push_turn.new.steps.items c.push_let.new.steps.items c.args.place c.args.name _ _ c.in_ok-push_turn.ensures (c.in_ok-made.ensures ∙ ap (a_make c.args.tag) c.in_ok-argument.ensures) p)
    c.push_let.ensures
