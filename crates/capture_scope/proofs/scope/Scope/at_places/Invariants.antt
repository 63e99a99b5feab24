use Rattle.std.proofs.Common.{◌≡◌, ◌++◌, drop}
use Rattle.closure_convert.specs.Capture.{visible}
use Rattle.capture_scope.specs.Picked.{picked}
use Rattle.capture_scope.proofs.scope.Scope.at_places.Given as goal

abbrev pub invariant-loop-i : goal.invariant-loop-i
invariant-loop-i l = l.found.items ++ picked (visible l.self) l.next (drop l.i l.places) ≡ picked (visible l.self) 0 l.places
