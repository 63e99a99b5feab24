use Rattle.std.proofs.Common.{arith}
use Rattle.ir_known.specs.of_ir_poly.Types.{admits_in}
use Rattle.ir_known.specs.Knows.{marks_of}
use Rattle.ir_known.proofs.Declaring.{not-yes}
use Rattle.ir_uses.proofs.Lists.{allowed-more, allowed-not}
use Rattle.ir_uses.proofs.using.allow_each.Goals as goal

pub loop-i-preserved : goal.loop-i-preserved
loop-i-preserved c = let t = c.loop-i-test.true in let r = c.requires in
    allowed-more c.args.types.now (admits_in (marks_of c.args.scope.now)) c.args.parameters.now c.args.ts.now c.loop-i.i _ _ t (omega arith) c.loop-i.invariant (c.in_ok-yes.ensures.fits.0 c.if-not-yes.false)

pub returns-then-not-yes : goal.returns-then-not-yes
returns-then-not-yes c = let t = c.loop-i-test.true in let r = c.requires in
    ((λ f. absurd (cc)), (λ p. absurd (allowed-not c.args.types.now (admits_in (marks_of c.args.scope.now)) c.args.parameters.now c.args.ts.now c.loop-i.i _ _ t (omega arith) (λ o. not-yes c.if-not-yes.true (c.in_ok-yes.ensures.fits.1 o)) p)))
