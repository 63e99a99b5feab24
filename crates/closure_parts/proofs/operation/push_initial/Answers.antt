use Rattle.closure_parts.proofs.Operating.{if-ok}
use Rattle.closure_parts.proofs.Putting.{initial-put}
use Rattle.closure_parts.proofs.operation.push_initial.Goals as goal

pub returns : goal.returns
returns c =
    if-ok _ _ c.push_let-2.result
    (λ u p. initial-put c.args.steps.now.items c.push_let.new.steps.items c.push_packet.new.steps.items c.push_let-2.new.steps.items c.args.name c.args.exception c.new.result.items c.new.ensures.items c.in_ok-push_let.ensures c.in_ok-push_packet.ensures p)
    c.push_let-2.ensures
