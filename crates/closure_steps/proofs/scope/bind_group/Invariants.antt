use Rattle.std.proofs.Common.{◌≡◌, ◌≤◌, length, drop}
use Rattle.closure_convert.specs.Scope.{names, add_all}
use Rattle.capture_scope.specs.Seen.{members_of}
use Rattle.closure_steps.proofs.scope.bind_group.Given as goal

abbrev pub invariant-loop-left : goal.invariant-loop-left
invariant-loop-left l = record { within : l.left ≤ length l.members; bound : l.scope ≡ add_all (names (members_of (drop l.left l.members))) l.fn.scope }

abbrev pub decreases-loop-left : goal.decreases-loop-left
decreases-loop-left l = l.left
