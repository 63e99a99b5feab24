use Rattle.ir_known.specs.of_ir_poly.Types.{admits_in}
use Rattle.ir_known.specs.Knows.{marks_of}
use Rattle.ir_known.proofs.Declaring.{not-yes}
use Rattle.ir_uses.proofs.Lists.{allowed-long}
use Rattle.ir_uses.proofs.using.is_instance.Goals as goal

pub returns-then-parameters-ts : goal.returns-then-parameters-ts
returns-then-parameters-ts c = ((λ f. absurd (cc)), (λ i. absurd (c.if-parameters-ts.true (allowed-long c.args.types.now (admits_in (marks_of c.args.scope.now)) c.args.parameters.now c.args.ts.now i.0))))

pub returns-then-not-allowed : goal.returns-then-not-allowed
returns-then-not-allowed c = ((λ f. absurd (cc)), (λ i. absurd (not-yes c.if-not-allowed.true (c.in_ok-allowed.ensures.1 i.0))))

pub returns-then-not-over : goal.returns-then-not-over
returns-then-not-over c = ((λ f. absurd (cc)), (λ i. absurd (not-yes c.if-not-over.true (c.in_ok-over.ensures.1 i.1))))

pub returns : goal.returns
returns c = ((λ y. (c.in_ok-allowed.ensures.0 c.if-not-allowed.false, c.in_ok-over.ensures.0 c.if-not-over.false, c.in_ok-yes.ensures.0 y)), (λ i. c.in_ok-yes.ensures.1 i.2))
