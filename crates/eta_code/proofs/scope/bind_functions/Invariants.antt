use Rattle.std.proofs.Common.{◌≡◌, ◌≤◌, length, drop}
use Rattle.eta_code.specs.Scopes.{with_functions}
use Rattle.eta_code.proofs.scope.bind_functions.Given as goal

abbrev pub invariant-loop-left : goal.invariant-loop-left
invariant-loop-left l = record { within : l.left ≤ length l.functions; bound : l.names ≡ with_functions (drop l.left l.functions) l.fn.names }

abbrev pub decreases-loop-left : goal.decreases-loop-left
decreases-loop-left l = l.left
