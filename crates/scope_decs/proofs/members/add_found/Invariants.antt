use Rattle.std.proofs.Common.{◌≡◌, ◌++◌, take}
use Rattle.vid_scope.specs.Entries.{entry_of}
use Rattle.scope_decs.specs.Opening.{found_by}
use Rattle.scope_decs.proofs.members.add_found.Given as goal

abbrev pub invariant-loop-i : goal.invariant-loop-i
invariant-loop-i l = l.values.items ≡ l.fn.values.items ++ found_by (entry_of l.scope) (take l.i l.contents)
