use Rattle.std.proofs.Common.{◌≡◌, map, take}
use Rattle.capture_scope.specs.Seen.{members_of}
use Rattle.closure_steps.proofs.Members.{member-is}
use Rattle.closure_steps.proofs.scope.members_of_group.Given as goal

abbrev pub invariant-loop-i : goal.invariant-loop-i
invariant-loop-i l = members_of l.found.items ≡ map member-is (take l.i l.functions)
