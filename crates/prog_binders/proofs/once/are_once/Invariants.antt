use Rattle.prog_binders.proofs.Tally.{Counted}
use Rattle.prog_binders.proofs.once.are_once.Given as goal

abbrev pub invariant-loop-i : goal.invariant-loop-i
invariant-loop-i l = Counted l.numbers l.seen.keys l.i
