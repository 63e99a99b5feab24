use Rattle.std.proofs.Common.{◌≡◌, ◌≤◌, ◌+◌, ℕ, length, drop, unwrap_or, nat_eq}
use Rattle.std.specs.Map.{lookup}
use Rattle.closure_convert.specs.Scope.{index_of}
use Rattle.closure_parts.proofs.places.Index.of.Given as goal

abbrev pub invariant-loop-left : goal.invariant-loop-left
invariant-loop-left l = record {
  within : l.left ≤ length l.keys;
  placed : (k : ℕ) → unwrap_or (lookup (nat_eq k) l.places.entries) (length l.keys) ≡ l.left + index_of k (drop l.left l.keys);
}

abbrev pub decreases-loop-left : goal.decreases-loop-left
decreases-loop-left l = l.left
