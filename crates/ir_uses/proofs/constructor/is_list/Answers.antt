use Rattle.std.proofs.Common.{map}
use Rattle.ty_core.specs.Types.{name}
use Rattle.ty_table.specs.TypeAt.{type_at, types_at}
use Rattle.ir_known.specs.of_ir_poly.Types.{list_name, nth_type}
use Rattle.ir_known.proofs.Declaring.{not-yes}
use Rattle.ir_uses.proofs.Constructing.{datatype-differs, list-long, list-is, named-not}
use Rattle.ir_uses.proofs.constructor.is_list.Goals as goal

pub returns-then-not-same_name : goal.returns-then-not-same_name
returns-then-not-same_name c = datatype-differs (type_at c.args.types.now c.args.t) c.in-Some.found list_name (types_at c.args.types.now c.in-Some.held.now) _ c.in-Some.ensures (λ p. not-yes c.if-not-same_name.true (c.same_name.ensures.1 p))

pub returns-then-held-ne1 : goal.returns-then-held-ne1
returns-then-held-ne1 c = list-long c.args.types.now (type_at c.args.types.now c.args.t) (nth_type (map (type_at c.args.types.now) c.args.parts.now) 0) (name c.in-Some.found) c.in-Some.held.now c.in-Some.ensures c.if-held-ne1.true

pub returns-else-held-ne1 : goal.returns-else-held-ne1
returns-else-held-ne1 c = list-is c.args.types.now (type_at c.args.types.now c.args.t) (nth_type (map (type_at c.args.types.now) c.args.parts.now) 0) c.in-Some.found c.in-Some.held.now _ c.is_first.result c.in-Some.ensures
    (c.same_name.ensures.0 c.if-not-same_name.false) c.if-held-ne1.false c.is_first.ensures

pub returns-in-None : goal.returns-in-None
returns-in-None c = named-not (type_at c.args.types.now c.args.t) list_name _ c.in-None.ensures
