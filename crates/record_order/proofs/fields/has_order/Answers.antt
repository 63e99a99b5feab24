use Rattle.std.proofs.Common.{sym, ◌∙◌}
use Rattle.ty_table.specs.TypeAt.{type_at}
use Rattle.ir_uses.proofs.Records.{row-long, row-none}
use Rattle.record_order.proofs.Halves.{order-some, order-none}
use Rattle.record_order.proofs.fields.has_order.Goals as goal

pub returns-then-labels-parts : goal.returns-then-labels-parts
returns-then-labels-parts c = order-none (type_at c.args.types.now c.args.row) (row-long c.args.types.now (type_at c.args.types.now c.args.row) c.in-Some.labels.now c.in-Some.parts.now c.in-Some.ensures c.if-labels-parts.true)

pub returns-else-labels-parts : goal.returns-else-labels-parts
returns-else-labels-parts c = c.do_ascend.ensures ∙ sym (order-some c.args.types.now (type_at c.args.types.now c.args.row) c.in-Some.labels.now c.in-Some.parts.now c.in-Some.ensures c.if-labels-parts.false)

pub returns-in-None : goal.returns-in-None
returns-in-None c = order-none (type_at c.args.types.now c.args.row) (row-none (type_at c.args.types.now c.args.row) c.in-None.ensures)
