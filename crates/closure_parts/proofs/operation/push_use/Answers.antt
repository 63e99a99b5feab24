use Rattle.std.proofs.Common.{sym, ◌∙◌}
use Rattle.closure_parts.proofs.Operating.{if-ok, used-name, used-value}
use Rattle.closure_parts.proofs.operation.push_use.Goals as goal

pub returns-in_ok-push_let : goal.returns-in_ok-push_let
returns-in_ok-push_let c =
    if-ok _ _ c.push_packet.result
    (λ u p types strings n F T h. used-name n c.args.scope.now c.args.name c.args.variable c.args.steps.now.items c.push_let.new.steps.items c.push_packet.new.steps.items _ (sym (h.names c.args.variable) ∙ sym c.is_name.ensures ∙ c.if-is_name.true) (c.in_ok-found.ensures n h.tags)
    c.in_ok-push_let.ensures p)
    c.push_packet.ensures

pub returns-else-is_name : goal.returns-else-is_name
returns-else-is_name c =
    if-ok _ _ c.push_let-else-is_name.result
    (λ u p types strings n F T h. used-value n c.args.scope.now c.args.name c.args.variable c.args.steps.now.items c.push_let-else-is_name.new.steps.items _ (sym (h.names c.args.variable) ∙ sym c.is_name.ensures ∙ c.if-is_name.false) (c.in_ok-found.ensures n h.tags) p)
    c.push_let-else-is_name.ensures
