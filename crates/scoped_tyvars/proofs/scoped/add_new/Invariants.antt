use Rattle.std.proofs.Common.{ℕ, List}
use Rattle.scoped_tyvars.specs.Noted.{HasNoted}
use Rattle.scoped_tyvars.proofs.New.{AreAdded}
use Rattle.scoped_tyvars.proofs.scoped.add_new.Given as goal

abbrev pub invariant-loop-i : goal.invariant-loop-i
invariant-loop-i l = (names : List ℕ) → HasNoted l.around l.fn.noted names → AreAdded l.around names l.occurring l.i l.fn.scoped.items l.scoped.items l.noted
