use Rattle.std.proofs.Common.{◌≡◌, ◌++◌, drop, length}
use Rattle.general_decs.specs.Inside.{marked_as}
use Rattle.general_decs.proofs.add.flag.Given as goal

abbrev pub invariant-loop-i : goal.invariant-loop-i
invariant-loop-i l = (l.flags.items ++ marked_as l.general (drop l.i l.bound)) ≡ (l.fn.flags.items ++ marked_as l.general (drop (length l.fn.flags.items) l.bound))
