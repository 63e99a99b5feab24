use Rattle.plain_tree.proofs.Counts.{Counted}
use Rattle.mono_operations.proofs.distinct.are_once.Given as goal

abbrev pub invariant-loop-i : goal.invariant-loop-i
invariant-loop-i l = Counted l.numbers l.seen.keys l.i
