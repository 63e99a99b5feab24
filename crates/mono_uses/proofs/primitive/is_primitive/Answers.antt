use Rattle.mono_uses.proofs.Shapes.{refused-value, allowed-value}
use Rattle.mono_uses.proofs.primitive.is_primitive.Goals as goal

pub returns-then-not-allows : goal.returns-then-not-allows
returns-then-not-allows c = refused-value c.args.types.now c.args.primitive c.args.u c.primitive_type-signature.result c.primitive_type-signature.ensures c.args.n c.allows.result c.allows.ensures c.if-not-allows.true

pub returns : goal.returns
returns c = allowed-value c.args.types.now c.args.primitive c.args.u c.primitive_type-signature.result c.primitive_type-signature.ensures c.args.n c.allows.result c.is_value.result c.allows.ensures c.if-not-allows.false c.is_value.ensures
