use Rattle.ty_table.specs.TypeAt.{type_at}
use Rattle.ir_uses.proofs.Records.{selected, not-selected}
use Rattle.record_order.proofs.orders.Orders.is_selected.Goals as goal

pub returns-in-Some : goal.returns-in-Some
returns-in-Some c = selected c.args.types.now c.args.label (type_at c.args.types.now c.args.u) (type_at c.args.types.now c.args.t) c.field.result c.field.ensures c.in-Some.found c.same_type.result c.in-Some.is c.same_type.ensures

pub returns-in-None : goal.returns-in-None
returns-in-None c = not-selected c.args.types.now c.args.label (type_at c.args.types.now c.args.u) (type_at c.args.types.now c.args.t) c.field.result c.field.ensures c.in-None.is
