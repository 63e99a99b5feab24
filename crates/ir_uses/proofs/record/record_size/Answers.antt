use Rattle.ty_table.specs.TypeAt.{type_at}
use Rattle.ir_uses.proofs.Records.{row-long, row-none, size-some, size-none}
use Rattle.ir_uses.proofs.record.record_size.Goals as goal

pub returns-then-labels-parts : goal.returns-then-labels-parts
returns-then-labels-parts c = size-none (type_at c.args.types.now c.args.t) (row-long c.args.types.now (type_at c.args.types.now c.args.t) c.in-Some.labels.now c.in-Some.parts.now c.in-Some.ensures c.if-labels-parts.true)

pub returns-else-labels-parts : goal.returns-else-labels-parts
returns-else-labels-parts c = size-some c.args.types.now (type_at c.args.types.now c.args.t) c.in-Some.labels.now c.in-Some.parts.now c.in-Some.ensures c.if-labels-parts.false

pub returns-in-None : goal.returns-in-None
returns-in-None c = size-none (type_at c.args.types.now c.args.t) (row-none (type_at c.args.types.now c.args.t) c.in-None.ensures)
