use Rattle.std.proofs.Common.{◌≡◌, ◌≤◌, ◌&&◌, ◌++◌, ℕ, List, length, drop, nat_eq}
use Rattle.std.specs.List.{concat}
use Rattle.std.specs.Map.{lookup}
use Rattle.flow_types.specs.of_closure_whole.Tags.{stand_once}
use Rattle.closure_parts.specs.Tagged.{ArePlaced}
use Rattle.closure_parts.proofs.Tagging.{placed_from}
use Rattle.closure_parts.proofs.tags.push_places.Given as goal

abbrev pub invariant-loop-left : goal.invariant-loop-left
invariant-loop-left l = record {
  within : l.left ≤ length l.set;
  placed : (sets : List (List ℕ)) → ArePlaced l.fn.places.entries sets → (k : ℕ) → lookup (nat_eq k) l.places.entries ≡ placed_from l.left (drop l.left l.set) sets k;
  once : (sets : List (List ℕ)) → ArePlaced l.fn.places.entries sets → (l.new && stand_once (concat sets)) ≡ stand_once (drop l.left l.set ++ concat sets);
}

abbrev pub decreases-loop-left : goal.decreases-loop-left
decreases-loop-left l = l.left
