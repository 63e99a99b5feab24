use Rattle.std.proofs.Common.{map}
use Rattle.ty_core.specs.Types.{con, name, typs_of}
use Rattle.ty_table.specs.TypeAt.{type_at}
use Rattle.ir_uses.proofs.Constructing.{value-nothing}
use Rattle.ir_uses.proofs.constructor.is_value.Goals as goal

pub returns-in-Nothing : goal.returns-in-Nothing
returns-in-Nothing c = value-nothing c.args.types.now (map (type_at c.args.types.now) c.args.ts.now) c.args.argument (type_at c.args.types.now c.args.t) (con (name c.args.datatype) (typs_of (map (type_at c.args.types.now) c.args.ts.now))) c.is_datatype.result c.in-Nothing.is c.is_datatype.ensures
