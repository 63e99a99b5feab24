use Rattle.std.proofs.Common.{length}
use Rattle.scoped_map.proofs.LogLemmas.{Left}
use Rattle.scoped_map.proofs.scoped.Scoped.truncate.Given as goal

abbrev pub invariant-loop-self : goal.invariant-loop-self
invariant-loop-self g l = Left l.fn.self l.self l.len

abbrev pub decreases-loop-self : goal.decreases-loop-self
decreases-loop-self g l = length l.self
