use Rattle.std.proofs.Common.{arith}
use Rattle.mono_number.proofs.Given.{if-ok}
use Rattle.mono_number.proofs.Moving.{bodies-moves}
use Rattle.mono_number.proofs.walk.enter_bodies.Goals as goal

pub returns : goal.returns
returns c = if-ok _ _ c.enter.result (λ u h known. bodies-moves c.args.limit known c.args.functions c.args.walk.now c.enter.new.walk (let q = c.if-functions-eq0.false in omega (arith, q)) (h known)) c.enter.ensures
