use Rattle.std.proofs.Common.{length, take}
use Rattle.ty_solve.proofs.Knowing.{AreKnown}
use Rattle.ty_solve.proofs.known.are_known.Given as goal

abbrev pub invariant-loop-i : goal.invariant-loop-i
invariant-loop-i l = AreKnown l.s.types (length l.s.types) (length l.s.slots.items) (take l.i l.types)
