use Rattle.std.proofs.Common.{◌≡◌, length}
use Rattle.final_types.specs.Bounds.{AreBounds}
use Rattle.final_types.proofs.bound.bounds_of.Given as goal

abbrev pub invariant-loop-k : goal.invariant-loop-k
invariant-loop-k l = record {
  count : length l.bounds.items ≡ l.k;
  bounds : AreBounds l.solver l.bounds.items;
}
