use Rattle.closure_parts.proofs.Operating.{if-ok}
use Rattle.closure_parts.proofs.Closures.{ready-bound, ready-let}
use Rattle.closure_parts.proofs.making.push_ready.Goals as goal

pub returns-then-is_local : goal.returns-then-is_local
returns-then-is_local c = λ n t. ready-bound n c.args.scope.now c.args.variable c.find.result c.is_local.result c.find.ensures c.is_local.ensures c.args.steps.now.items c.if-is_local.true

pub returns : goal.returns
returns c =
    if-ok _ _ c.push_let.result
    (λ u p n t. ready-let n c.args.scope.now c.args.variable c.find.result c.is_local.result c.find.ensures c.is_local.ensures c.args.steps.now.items c.push_let.new.steps.items c.in_ok-name.name _ c.if-is_local.false c.in_ok-name.ensures
    (c.in_ok-found.ensures n t) p) c.push_let.ensures
