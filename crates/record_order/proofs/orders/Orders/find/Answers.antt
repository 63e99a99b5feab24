use Rattle.std.proofs.Common.{◌≤◌, ◌∙◌, subst}
use Rattle.record_order.proofs.Tables.{orders-all}
use Rattle.record_order.proofs.orders.Orders.find.Goals as goal

pub returns : goal.returns
returns c = c.loop-i.invariant ∙ orders-all c.args.types.now c.loop-i.i (subst (λ n. n ≤ c.loop-i.i) c.len-i-end.ensures.is c.loop-i-test.false)
