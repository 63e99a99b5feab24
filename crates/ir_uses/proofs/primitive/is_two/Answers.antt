use Rattle.std.proofs.Common.{[], ◌∷◌, arith}
use Rattle.ty_table.specs.TypeAt.{type_at}
use Rattle.ir_known.specs.of_ir_poly.Types.{put}
use Rattle.ir_known.proofs.Declaring.{not-yes}
use Rattle.ir_uses.specs.Shapes.{shape_type}
use Rattle.ir_uses.proofs.Describing.{length-differs, first-differs, second}
use Rattle.ir_uses.proofs.primitive.is_two.Goals as goal

pub returns-then-ts-ne2 : goal.returns-then-ts-ne2
returns-then-ts-ne2 c = length-differs (type_at c.args.types.now) c.args.ts.now (put (type_at c.args.types.now c.args.u) (shape_type c.args.a) ∷ put (type_at c.args.types.now c.args.u) (shape_type c.args.b) ∷ []) c.if-ts-ne2.true

pub returns-then-not-is_shape : goal.returns-then-not-is_shape
returns-then-not-is_shape c = let l = c.if-ts-ne2.false in first-differs (type_at c.args.types.now) c.args.ts.now _ (put (type_at c.args.types.now c.args.u) (shape_type c.args.a)) (put (type_at c.args.types.now c.args.u) (shape_type c.args.b) ∷ [])
    (λ z. omega arith) (λ p. not-yes c.if-not-is_shape.true (c.is_shape.ensures.1 p))

pub returns : goal.returns
returns c = second (type_at c.args.types.now) c.args.ts.now _ _ (put (type_at c.args.types.now c.args.u) (shape_type c.args.a)) (put (type_at c.args.types.now c.args.u) (shape_type c.args.b)) c.is_shape-2.result c.if-ts-ne2.false
    (c.is_shape.ensures.0 c.if-not-is_shape.false) c.is_shape-2.ensures
