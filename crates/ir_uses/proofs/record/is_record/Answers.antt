use Rattle.ty_table.specs.TypeAt.{type_at, types_at}
use Rattle.ir_known.proofs.Declaring.{not-yes}
use Rattle.ir_uses.proofs.Records.{record-is, record-differs, record-not}
use Rattle.ir_uses.proofs.record.is_record.Goals as goal

pub returns-then-not-labels_are : goal.returns-then-not-labels_are
returns-then-not-labels_are c = record-differs c.args.types.now (type_at c.args.types.now c.args.t) c.args.fields.now c.in-Some.labels.now (types_at c.args.types.now c.in-Some.parts.now) c.in-Some.ensures
    (λ p. not-yes c.if-not-labels_are.true (c.labels_are.ensures.1 p))

pub returns-else-not-labels_are : goal.returns-else-not-labels_are
returns-else-not-labels_are c = record-is c.args.types.now (type_at c.args.types.now c.args.t) c.args.fields.now c.in-Some.labels.now c.in-Some.parts.now c.types_are.result c.in-Some.ensures
    (c.labels_are.ensures.0 c.if-not-labels_are.false) c.types_are.ensures

pub returns-in-None : goal.returns-in-None
returns-in-None c = record-not c.args.types.now (type_at c.args.types.now c.args.t) c.args.fields.now c.in-None.ensures
