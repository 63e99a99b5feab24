use Rattle.name_scopes.proofs.Once.{Seen}
use Rattle.name_scopes.proofs.twice.is_twice.Given as goal

abbrev pub invariant-loop-i : goal.invariant-loop-i
invariant-loop-i l = Seen l.vids l.i l.seen

abbrev pub decreases-loop-i : goal.decreases-loop-i
decreases-loop-i l = l.i
