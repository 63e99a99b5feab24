use Rattle.std.proofs.Common.{sym, ◌∙◌}
use Rattle.ty_table.specs.TypeAt.{type_at}
use Rattle.ir_uses.proofs.Records.{row-long, row-none, field-some, field-none}
use Rattle.record_order.proofs.Halves.{order-some}
use Rattle.record_order.proofs.fields.field_by_halves.Goals as goal

pub beside-requires-clause-ascend : goal.beside-requires-clause-ascend
beside-requires-clause-ascend c = sym (order-some c.args.types.now (type_at c.args.types.now c.args.row) c.in-Some.labels.now c.in-Some.parts.now c.in-Some.ensures c.if-labels-parts.false) ∙ c.requires

pub returns-then-labels-parts : goal.returns-then-labels-parts
returns-then-labels-parts c = field-none (type_at c.args.types.now c.args.row) c.args.label (row-long c.args.types.now (type_at c.args.types.now c.args.row) c.in-Some.labels.now c.in-Some.parts.now c.in-Some.ensures c.if-labels-parts.true)

pub returns-else-labels-parts : goal.returns-else-labels-parts
returns-else-labels-parts c = field-some c.args.types.now (type_at c.args.types.now c.args.row) c.in-Some.labels.now c.in-Some.parts.now c.args.label c.beside.result c.in-Some.ensures c.if-labels-parts.false c.beside.ensures

pub returns-in-None : goal.returns-in-None
returns-in-None c = field-none (type_at c.args.types.now c.args.row) c.args.label (row-none (type_at c.args.types.now c.args.row) c.in-None.ensures)
