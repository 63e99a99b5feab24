use Rattle.ir_known.specs.of_ir_poly.Types.{admits_in}
use Rattle.ir_known.specs.Knows.{marks_of}
use Rattle.ir_uses.proofs.Lists.{allowed-long}
use Rattle.ir_uses.proofs.using.are_allowed.Goals as goal

pub returns-then-parameters-ts : goal.returns-then-parameters-ts
returns-then-parameters-ts c = ((λ f. absurd (cc)), (λ p. absurd (c.if-parameters-ts.true (allowed-long c.args.types.now (admits_in (marks_of c.args.scope.now)) c.args.parameters.now c.args.ts.now p))))
