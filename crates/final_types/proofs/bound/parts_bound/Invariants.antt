use Rattle.std.proofs.Common.{◌≡◌, Some, take}
use Rattle.final_types.specs.Bounds.{widest}
use Rattle.final_types.proofs.bound.parts_bound.Given as goal

abbrev pub invariant-loop-i : goal.invariant-loop-i
invariant-loop-i l = l.bound ≡ widest l.bounds (Some l.least) (take l.i l.parts)
