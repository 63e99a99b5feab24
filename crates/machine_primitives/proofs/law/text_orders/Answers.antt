use Rattle.machine_primitives.proofs.TextOrders.{text_orders_right}
use Rattle.machine_primitives.proofs.law.text_orders.Goals as goal

pub returns : goal.returns
returns c = text_orders_right c.control.ensures c.memory.ensures c.arithmetic.ensures c.begins.ensures
