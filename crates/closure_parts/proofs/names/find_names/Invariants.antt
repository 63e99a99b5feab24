use Rattle.std.proofs.Common.{◌≤◌, length, drop, map}
use Rattle.mono_bound.specs.Bound.{bound_of}
use Rattle.closure_parts.specs.Named.{AreNames}
use Rattle.closure_parts.proofs.names.find_names.Given as goal

abbrev pub invariant-loop-left : goal.invariant-loop-left
invariant-loop-left l = record { within : l.left ≤ length l.found; named : AreNames l.names.entries (map bound_of (drop l.left l.found)) }

abbrev pub decreases-loop-left : goal.decreases-loop-left
decreases-loop-left l = l.left
