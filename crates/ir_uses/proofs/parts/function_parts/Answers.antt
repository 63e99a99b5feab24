use Rattle.ir_known.proofs.Asking.{no-function}
use Rattle.ir_uses.proofs.parts.function_parts.Goals as goal

pub returns-then-parts-ne2 : goal.returns-then-parts-ne2
returns-then-parts-ne2 c = λ u v. no-function c.args.types.now _ c.in-Apply.parts.now _ u c.in-Apply.ensures.0 c.if-parts-ne2.true v
