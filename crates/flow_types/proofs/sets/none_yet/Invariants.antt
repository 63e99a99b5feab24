use Rattle.std.proofs.Common.{◌≡◌, ◌≤◌, ◌-◌, length}
use Rattle.flow_types.specs.Kinds.{items_of, empty_sets}
use Rattle.flow_types.proofs.sets.none_yet.Given as goal

abbrev pub invariant-loop-alloc : goal.invariant-loop-alloc
invariant-loop-alloc l = record { within : length l.sets.items ≤ l.count; empty : items_of l.sets.items ≡ empty_sets (length l.sets.items) }

abbrev pub decreases-loop-alloc : goal.decreases-loop-alloc
decreases-loop-alloc l = l.count - length l.sets.items
