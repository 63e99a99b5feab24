use Rattle.std.proofs.Common.{map}
use Rattle.ty_core.specs.Types.{con, name, typs_of}
use Rattle.ty_table.specs.TypeAt.{type_at}
use Rattle.ir_known.proofs.Declaring.{not-yes}
use Rattle.ir_uses.proofs.Constructing.{constructing, constructing-not, constructing-none}
use Rattle.ir_uses.proofs.constructor.is_constructing.Goals as goal

pub returns-then-not-is_datatype : goal.returns-then-not-is_datatype
returns-then-not-is_datatype c = constructing-not c.args.types.now (map (type_at c.args.types.now) c.args.ts.now) c.args.argument c.requires (type_at c.args.types.now c.args.t) (con (name c.args.datatype) (typs_of (map (type_at c.args.types.now) c.args.ts.now)))
    (type_at c.args.types.now c.in-Some.from) (type_at c.args.types.now c.in-Some.to) c.in-Some.ensures (λ p. not-yes c.if-not-is_datatype.true (c.is_datatype.ensures.1 p))

pub returns-in_ok-yes-in-Some : goal.returns-in_ok-yes-in-Some
returns-in_ok-yes-in-Some c = constructing c.args.types.now (map (type_at c.args.types.now) c.args.ts.now) c.args.argument c.requires (type_at c.args.types.now c.args.t) (con (name c.args.datatype) (typs_of (map (type_at c.args.types.now) c.args.ts.now)))
    (type_at c.args.types.now c.in-Some.from) (type_at c.args.types.now c.in-Some.to) c.in_ok-yes-in-Some.yes c.in-Some.ensures (c.is_datatype.ensures.0 c.if-not-is_datatype.false) c.in_ok-yes-in-Some.ensures

pub returns-in-None : goal.returns-in-None
returns-in-None c = constructing-none c.args.types.now (map (type_at c.args.types.now) c.args.ts.now) c.args.argument c.requires (type_at c.args.types.now c.args.t) (con (name c.args.datatype) (typs_of (map (type_at c.args.types.now) c.args.ts.now))) c.in-None.ensures
