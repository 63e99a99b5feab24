use Rattle.std.proofs.Common.{take}
use Rattle.closure_convert.specs.Capture.{visible}
use Rattle.capture_scope.specs.Picked.{AtPlaces}
use Rattle.capture_scope.proofs.scope.Scope.places.Given as goal

abbrev pub invariant-loop-i : goal.invariant-loop-i
invariant-loop-i l = AtPlaces (visible l.self) (take l.i l.uses) l.places.items
