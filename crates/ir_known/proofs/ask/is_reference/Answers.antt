use Rattle.ir_known.proofs.Asking.{not-reference}
use Rattle.ir_known.proofs.ask.is_reference.Goals as goal

pub returns-then-parts-ne1 : goal.returns-then-parts-ne1
returns-then-parts-ne1 c = not-reference c.args.types.now _ c.in-Apply.parts.now _ _ c.in-Apply.ensures.0 c.if-parts-ne1.true
