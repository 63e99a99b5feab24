use Rattle.std.proofs.Common.{◌≡◌, drop}
use Rattle.pattern_tests.specs.Spots.{names_onto}
use Rattle.pattern_tests.proofs.spots.bind_spots.Given as goal

abbrev pub invariant-loop-i : goal.invariant-loop-i
invariant-loop-i l = names_onto (drop l.i l.spots) l.names ≡ names_onto l.spots l.fn.names
