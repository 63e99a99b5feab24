use Rattle.std.proofs.Common.{◌≡◌, take}
use Rattle.run_end.specs.Settled.{types_brought}
use Rattle.run_end.proofs.settled.types_of.Given as goal

abbrev pub invariant-loop-i : goal.invariant-loop-i
invariant-loop-i l = l.types.items ≡ types_brought (take l.i l.values)
