use Rattle.std.proofs.Common.{map}
use Rattle.ty_core.specs.Types.{typs_of}
use Rattle.ty_table.specs.TypeAt.{type_at, types_at}
use Rattle.ir_known.proofs.Declaring.{not-yes}
use Rattle.ir_uses.proofs.Constructing.{datatype-same, datatype-differs, named-not}
use Rattle.ir_uses.proofs.constructor.is_datatype.Goals as goal

pub returns-then-not-same_name : goal.returns-then-not-same_name
returns-then-not-same_name c = datatype-differs (type_at c.args.types.now c.args.t) c.in-Some.found c.args.datatype (types_at c.args.types.now c.in-Some.parts.now) (typs_of (map (type_at c.args.types.now) c.args.ts.now)) c.in-Some.ensures
    (λ p. not-yes c.if-not-same_name.true (c.same_name.ensures.1 p))

pub returns-else-not-same_name : goal.returns-else-not-same_name
returns-else-not-same_name c = datatype-same c.args.types.now (type_at c.args.types.now c.args.t) c.in-Some.found c.args.datatype c.in-Some.parts.now c.args.ts.now c.same_types.result c.in-Some.ensures
    (c.same_name.ensures.0 c.if-not-same_name.false) c.same_types.ensures

pub returns-in-None : goal.returns-in-None
returns-in-None c = named-not (type_at c.args.types.now c.args.t) c.args.datatype (typs_of (map (type_at c.args.types.now) c.args.ts.now)) c.in-None.ensures
