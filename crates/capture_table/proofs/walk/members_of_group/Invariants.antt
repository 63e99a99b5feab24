use Rattle.std.proofs.Common.{◌≡◌, map, take}
use Rattle.capture_scope.specs.Seen.{members_of}
use Rattle.capture_table.specs.Told.{members_told, function_told}
use Rattle.capture_table.proofs.walk.members_of_group.Given as goal

abbrev pub invariant-loop-i : goal.invariant-loop-i
invariant-loop-i l = members_of l.members.items ≡ members_told (map function_told (take l.i l.functions))
