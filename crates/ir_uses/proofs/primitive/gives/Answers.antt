use Rattle.std.proofs.Common.{◌≡◌, ◌↔◌, IsTrue, subst}
use Rattle.ty_table.specs.TypeAt.{type_at}
use Rattle.ir_uses.proofs.Describing.{gives-this}
use Rattle.ir_uses.proofs.primitive.gives.Goals as goal

pub returns : goal.returns
returns c = subst (λ u. IsTrue c.is_shape.result ↔ (type_at c.args.types.now c.args.t ≡ u)) (gives-this c.primitive_type.result c.args.primitive c.primitive_type.ensures (type_at c.args.types.now c.args.u)) c.is_shape.ensures
