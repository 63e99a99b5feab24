use Rattle.closure_parts.proofs.Operating.{if-ok}
use Rattle.closure_parts.proofs.Putting.{packet-put}
use Rattle.closure_parts.proofs.operation.push_packet.Goals as goal

pub returns : goal.returns
returns c =
    if-ok _ _ c.push_let-2.result
    (λ u p. packet-put c.args.steps.now.items c.push_let.new.steps.items c.push_let-2.new.steps.items c.args.name c.new.result.items c.in_ok-operands.operands.items c.new.ensures.items c.in_ok-operands.ensures c.in_ok-push_let.ensures p)
    c.push_let-2.ensures
