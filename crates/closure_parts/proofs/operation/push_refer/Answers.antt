use Rattle.std.proofs.Common.{refl}
use Rattle.closure_parts.proofs.Operating.{if-ok}
use Rattle.closure_parts.proofs.Putting.{marked-let}
use Rattle.closure_parts.proofs.operation.push_refer.Goals as goal

pub returns : goal.returns
returns c =
    if-ok _ _ c.push_plain.result
    (λ u p. marked-let c.args.steps.now.items c.push_turn.new.steps.items c.push_plain.new.steps.items c.args.place c.args.name _ _ c.in_ok-push_turn.ensures refl p)
    c.push_plain.ensures
