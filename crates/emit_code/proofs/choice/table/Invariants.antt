use Rattle.std.proofs.Common.{◌≡◌, ◌≤◌, ◌<◌, ℕ, length, map, drop, get_or}
use Rattle.machine_routines.specs.FindCode.{member_at, or_place}
use Rattle.emit_code.specs.Tags.{target_of}
use Rattle.emit_code.proofs.choice.table.Given as goal

abbrev pub invariant-loop-left : goal.invariant-loop-left
invariant-loop-left l = record {
  low : l.left ≤ length l.targets;
  long : length l.places.items ≡ l.count;
  each : (t : ℕ) → t < l.count → get_or l.places.items t 0 ≡ or_place (member_at t (map target_of (drop l.left l.targets))) l.other;
}

abbrev pub decreases-loop-left : goal.decreases-loop-left
decreases-loop-left l = l.left
