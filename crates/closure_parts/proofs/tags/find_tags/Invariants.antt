use Rattle.std.proofs.Common.{◌≡◌, ◌≤◌, length, drop}
use Rattle.std.specs.List.{concat}
use Rattle.flow_types.specs.Kinds.{items_of}
use Rattle.flow_types.specs.of_closure_whole.Tags.{stand_once}
use Rattle.closure_parts.specs.Tagged.{ArePlaced}
use Rattle.closure_parts.proofs.tags.find_tags.Given as goal

abbrev pub invariant-loop-left : goal.invariant-loop-left
invariant-loop-left l = record {
  within : l.left ≤ length l.sets;
  placed : ArePlaced l.places.entries (items_of (drop l.left l.sets));
  once : l.once ≡ stand_once (concat (items_of (drop l.left l.sets)));
}

abbrev pub decreases-loop-left : goal.decreases-loop-left
decreases-loop-left l = l.left
