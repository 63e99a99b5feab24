use Rattle.std.proofs.Common.{◌∙◌}
use Rattle.capture_scope.specs.Found.{pieces_of}
use Rattle.closure_parts.proofs.Operating.{if-ok}
use Rattle.closure_parts.proofs.Closures.{closure-made}
use Rattle.closure_parts.proofs.making.push_closure.Goals as goal

pub returns : goal.returns
returns c =
    if-ok _ _ c.push_let.result
    (λ u p n t.
    closure-made n c.args.scope.now (pieces_of c.args.pieces.now) c.args.name c.args.function c.of.result _ c.args.steps.now.items c.push_all_ready.new.steps.items c.push_let.new.steps.items (c.in_ok-push_all_ready.ensures n t)
    c.in_ok-parts.ensures (c.of.ensures ∙ t c.args.function) p)
    c.push_let.ensures
