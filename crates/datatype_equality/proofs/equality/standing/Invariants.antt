use Rattle.std.proofs.Common.{◌≡◌, not, map, take}
use Rattle.datatype_equality.proofs.equality.standing.Given as goal

abbrev pub invariant-loop-i : goal.invariant-loop-i
invariant-loop-i l = l.qs.items ≡ map not (take l.i l.fn.marks)
