use Rattle.mono_uses.proofs.Shapes.{refused-performance, allowed-performance}
use Rattle.mono_uses.proofs.primitive.performs.Goals as goal

pub returns-then-not-allows : goal.returns-then-not-allows
returns-then-not-allows c = refused-performance c.args.types.now c.args.primitive c.args.u c.primitive_type-signature.result c.primitive_type-signature.ensures c.args.ns.now c.args.r c.allows.result c.allows.ensures c.if-not-allows.true

pub returns : goal.returns
returns c = allowed-performance c.args.types.now c.args.primitive c.args.u c.primitive_type-signature.result c.primitive_type-signature.ensures c.args.ns.now c.args.r c.allows.result c.do_fit.result c.allows.ensures c.if-not-allows.false c.do_fit.ensures
