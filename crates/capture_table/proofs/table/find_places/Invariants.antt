use Rattle.std.proofs.Common.{◌≡◌, ◌≤◌, ℕ, length, drop, nat_eq}
use Rattle.std.specs.Map.{lookup}
use Rattle.capture_table.specs.Tables.{place_from}
use Rattle.capture_table.proofs.table.find_places.Given as goal

abbrev pub invariant-loop-left : goal.invariant-loop-left
invariant-loop-left l = record { within : l.left ≤ length l.found; placed : (k : ℕ) → lookup (nat_eq k) l.places.entries ≡ place_from l.left k (drop l.left l.found) }

abbrev pub decreases-loop-left : goal.decreases-loop-left
decreases-loop-left l = l.left
