use Rattle.capture_scope.proofs.Repeating.{seen-twice}
use Rattle.capture_scope.proofs.scope.see.Goals as goal

pub returns-else-new-clause-twice : goal.returns-else-new-clause-twice
returns-else-new-clause-twice c = λ b. seen-twice c.args.seen.now.keys c.args.variable c.in-Ok.new c.in-Ok.ensures.added c.if-new.false
