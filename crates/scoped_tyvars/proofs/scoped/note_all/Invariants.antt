use Rattle.std.proofs.Common.{◌≡◌, drop}
use Rattle.scoped_tyvars.specs.Noted.{names_onto}
use Rattle.scoped_tyvars.proofs.scoped.note_all.Given as goal

abbrev pub invariant-loop-i : goal.invariant-loop-i
invariant-loop-i l = names_onto l.noted (drop l.i l.tyvars) ≡ names_onto l.fn.noted l.tyvars
