use Rattle.ty_table.specs.TypeAt.{type_at}
use Rattle.ir_known.proofs.Declaring.{not-yes}
use Rattle.ir_uses.proofs.Describing.{value-is, value-differs}
use Rattle.ir_uses.proofs.primitive.is_value_type.Goals as goal

pub returns-then-not-gives : goal.returns-then-not-gives
returns-then-not-gives c = value-differs c.args.primitive (type_at c.args.types.now c.args.u) (type_at c.args.types.now c.args.t) (type_at c.args.types.now c.in-Some.from) (type_at c.args.types.now c.in-Some.to) c.in-Some.ensures
    (λ p. not-yes c.if-not-gives.true (c.gives.ensures.1 p))

pub returns-else-not-gives : goal.returns-else-not-gives
returns-else-not-gives c = value-is c.primitive_type.result c.args.primitive c.primitive_type.ensures (type_at c.args.types.now c.args.u) (type_at c.args.types.now c.args.t) (type_at c.args.types.now c.in-Some.from) (type_at c.args.types.now c.in-Some.to)
    c.is_tuple.result c.in-Some.ensures (c.gives.ensures.0 c.if-not-gives.false) c.is_tuple.ensures
