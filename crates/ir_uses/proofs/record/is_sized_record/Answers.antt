use Rattle.ty_table.specs.TypeAt.{type_at}
use Rattle.ir_uses.proofs.Records.{sized, not-sized}
use Rattle.ir_uses.proofs.record.is_sized_record.Goals as goal

pub returns-in-Some : goal.returns-in-Some
returns-in-Some c = sized c.args.size (type_at c.args.types.now c.args.t) c.record_size.result c.record_size.ensures c.in-Some.len c.is_of_size.result c.in-Some.is c.is_of_size.ensures

pub returns-in-None : goal.returns-in-None
returns-in-None c = not-sized c.args.size (type_at c.args.types.now c.args.t) c.record_size.result c.record_size.ensures c.in-None.is
