use Rattle.ir_known.specs.Knows.{marks_of}
use Rattle.ir_known.proofs.Declaring.{not-yes}
use Rattle.ir_uses.proofs.Lists.{over-more, over-not}
use Rattle.ir_uses.proofs.using.are_over.Goals as goal

pub loop-i-preserved : goal.loop-i-preserved
loop-i-preserved c = over-more c.args.types.now (marks_of c.args.scope.now) c.args.ts.now c.loop-i.i _ c.loop-i-test.true c.loop-i.invariant (c.in_ok-yes.ensures.0 c.if-not-yes.false)

pub returns-then-not-yes : goal.returns-then-not-yes
returns-then-not-yes c = ((λ f. absurd (cc)), (λ p. absurd (over-not c.args.types.now (marks_of c.args.scope.now) c.args.ts.now c.loop-i.i _ c.loop-i-test.true (λ o. not-yes c.if-not-yes.true (c.in_ok-yes.ensures.1 o)) p)))
