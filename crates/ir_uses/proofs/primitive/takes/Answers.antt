use Rattle.std.proofs.Common.{◌≡◌, ◌↔◌, IsTrue, map, subst}
use Rattle.ty_table.specs.TypeAt.{type_at}
use Rattle.ir_uses.proofs.Describing.{takes-these}
use Rattle.ir_uses.proofs.primitive.takes.Goals as goal

pub returns : goal.returns
returns c = subst (λ us. IsTrue c.are_shapes.result ↔ (map (type_at c.args.types.now) c.args.arguments.now ≡ us)) (takes-these c.primitive_type.result c.args.primitive c.primitive_type.ensures (type_at c.args.types.now c.args.u)) c.are_shapes.ensures
