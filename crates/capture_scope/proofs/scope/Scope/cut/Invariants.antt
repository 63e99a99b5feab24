use Rattle.std.proofs.Common.{◌≡◌, ◌≤◌, length, drop}
use Rattle.closure_convert.specs.Capture.{cut}
use Rattle.capture_scope.specs.Found.{pieces_back}
use Rattle.capture_scope.proofs.scope.Scope.cut.Given as goal

abbrev pub invariant-loop-left : goal.invariant-loop-left
invariant-loop-left l = record { within : l.left ≤ length l.variables; cut_so_far : pieces_back l.pieces.items ≡ cut l.self (drop l.left l.variables) }

abbrev pub decreases-loop-left : goal.decreases-loop-left
decreases-loop-left l = l.left
