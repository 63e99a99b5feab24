use Rattle.std.proofs.Common.{◌≡◌, ◌++◌, ◌≤◌, length, drop}
use Rattle.first_known.proofs.scope.Scope.bind_all.Given as goal

abbrev pub invariant-loop-left : goal.invariant-loop-left
invariant-loop-left l = record { within : l.left ≤ length l.variables; bound : l.self ≡ drop l.left l.variables ++ l.fn.self }

abbrev pub decreases-loop-left : goal.decreases-loop-left
decreases-loop-left l = l.left
