use Rattle.ir_known.proofs.Declaring.{not-yes}
use Rattle.ir_uses.proofs.Tabling.{argument-above, argument-below}
use Rattle.ir_uses.proofs.table.fits_datatype.Goals as goal

pub returns-then-not-is_below : goal.returns-then-not-is_below
returns-then-not-is_below c = argument-above c.args.types.now c.args.datatype.arity c.args.datatype.equality c.args.argument c.in-Some.t c.in-Some.is (λ p. not-yes c.if-not-is_below.true (c.is_below.ensures.1 p))

pub returns-else-not-is_below : goal.returns-else-not-is_below
returns-else-not-is_below c = argument-below c.args.types.now c.args.datatype.arity c.args.datatype.equality c.args.argument c.in-Some.t c.in-Some.is c.has_equality.result (c.is_below.ensures.0 c.if-not-is_below.false) c.has_equality.ensures
