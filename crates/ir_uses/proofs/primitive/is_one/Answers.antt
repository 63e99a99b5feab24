use Rattle.std.proofs.Common.{[], ◌∷◌}
use Rattle.ty_table.specs.TypeAt.{type_at}
use Rattle.ir_known.specs.of_ir_poly.Types.{put}
use Rattle.ir_uses.specs.Shapes.{shape_type}
use Rattle.ir_uses.proofs.Describing.{length-differs, only-one}
use Rattle.ir_uses.proofs.primitive.is_one.Goals as goal

pub returns-then-ts-ne1 : goal.returns-then-ts-ne1
returns-then-ts-ne1 c = length-differs (type_at c.args.types.now) c.args.ts.now (put (type_at c.args.types.now c.args.u) (shape_type c.args.a) ∷ []) c.if-ts-ne1.true

pub returns : goal.returns
returns c = only-one (type_at c.args.types.now) c.args.ts.now _ (put (type_at c.args.types.now c.args.u) (shape_type c.args.a)) c.is_shape.result c.if-ts-ne1.false c.is_shape.ensures
