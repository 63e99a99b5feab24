use Rattle.std.proofs.Common.{◌≡◌, ◌≤◌, length, map, drop}
use Rattle.mono_bound.specs.Bound.{bound_of}
use Rattle.closure_bodies.specs.of_closure_whole.Rising.{above}
use Rattle.closure_first.proofs.above.above_all.Given as goal

abbrev pub invariant-loop-left : goal.invariant-loop-left
invariant-loop-left l = record { within : l.left ≤ length l.found; least : l.least ≡ above (map bound_of (drop l.left l.found)) }

abbrev pub decreases-loop-left : goal.decreases-loop-left
decreases-loop-left l = l.left
