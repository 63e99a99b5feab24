use Rattle.std.proofs.Common.{◌≡◌, map, take}
use Rattle.record_order.specs.Order.{is_ordered}
use Rattle.record_order.proofs.orders.Orders.find.Given as goal

abbrev pub invariant-loop-i : goal.invariant-loop-i
invariant-loop-i l = l.ordered.items ≡ map is_ordered (take l.i l.types)
