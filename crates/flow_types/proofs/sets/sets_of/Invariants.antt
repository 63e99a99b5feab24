use Rattle.std.proofs.Common.{◌≡◌, drop}
use Rattle.flow_types.specs.Kinds.{items_of, empty_sets, sets_in}
use Rattle.flow_types.proofs.sets.sets_of.Given as goal

abbrev pub invariant-loop-i : goal.invariant-loop-i
invariant-loop-i l = sets_in l.i (drop l.i l.kinds) (items_of l.sets.items) ≡ sets_in 0 l.kinds (empty_sets l.count)
