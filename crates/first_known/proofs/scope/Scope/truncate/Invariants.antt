use Rattle.std.proofs.Common.{length}
use Rattle.first_known.proofs.Logs.{Left}
use Rattle.first_known.proofs.scope.Scope.truncate.Given as goal

abbrev pub invariant-loop-self : goal.invariant-loop-self
invariant-loop-self l = Left l.fn.self l.self l.len

abbrev pub decreases-loop-self : goal.decreases-loop-self
decreases-loop-self l = length l.self
