use Rattle.std.proofs.Common.{map}
use Rattle.ty_table.specs.TypeAt.{type_at, types_at}
use Rattle.ir_known.proofs.Declaring.{not-yes}
use Rattle.ir_uses.specs.Shapes.{shape_type, shapes_of}
use Rattle.ir_uses.proofs.Describing.{tuple-is, tuple-differs, tuple-not}
use Rattle.ir_uses.proofs.primitive.is_numbered.Goals as goal

pub returns-then-not-are_numbers : goal.returns-then-not-are_numbers
returns-then-not-are_numbers c = tuple-differs c.args.types.now (type_at c.args.types.now c.args.t) (type_at c.args.types.now c.args.u) (map shape_type (shapes_of c.args.shapes)) c.in-Some.labels.now (types_at c.args.types.now c.in-Some.parts.now) c.in-Some.ensures
    (λ p. not-yes c.if-not-are_numbers.true (c.are_numbers.ensures.1 p))

pub returns-else-not-are_numbers : goal.returns-else-not-are_numbers
returns-else-not-are_numbers c = tuple-is c.args.types.now (type_at c.args.types.now c.args.t) (type_at c.args.types.now c.args.u) (map shape_type (shapes_of c.args.shapes)) c.in-Some.labels.now c.in-Some.parts.now c.are_shapes.result c.in-Some.ensures
    (c.are_numbers.ensures.0 c.if-not-are_numbers.false) c.are_shapes.ensures

pub returns-in-None : goal.returns-in-None
returns-in-None c = tuple-not c.args.types.now (type_at c.args.types.now c.args.t) (type_at c.args.types.now c.args.u) (map shape_type (shapes_of c.args.shapes)) c.in-None.ensures
