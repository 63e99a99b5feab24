use Rattle.ir_known.proofs.Asking.{no-function}
use Rattle.ir_known.proofs.ask.result_from.Goals as goal

pub returns-then-parts-ne2 : goal.returns-then-parts-ne2
returns-then-parts-ne2 c = no-function c.args.types.now _ c.in-Apply.parts.now _ _ c.in-Apply.ensures.0 c.if-parts-ne2.true
