use Rattle.std.proofs.Common.{◌≡◌, map, take}
use Rattle.flow_types.specs.Kinds.{number_in}
use Rattle.flow_types.proofs.sets.numbers_of.Given as goal

abbrev pub invariant-loop-i : goal.invariant-loop-i
invariant-loop-i l = l.numbers.items ≡ map (number_in l.types) (take l.i l.kinds)
