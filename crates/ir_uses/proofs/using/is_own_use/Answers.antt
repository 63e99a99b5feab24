use Rattle.ty_table.specs.TypeAt.{type_at}
use Rattle.ir_known.specs.of_ir_tables.Tables.{parameters_of}
use Rattle.ir_uses.proofs.UseLemmas.{own-decided}
use Rattle.ir_uses.proofs.using.is_own_use.Goals as goal

pub returns-in-Own : goal.returns-in-Own
returns-in-Own c = own-decided c.args.tables.now.types (parameters_of c.args.tables.now) c.args.known c.in-Some.found c.in-Own.u (type_at c.args.tables.now.types c.args.t) c.same_type.result c.in-Some.is c.in-Own.is c.same_type.ensures
