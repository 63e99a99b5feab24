use Rattle.std.proofs.Common.{◌≡◌, ◌++◌, reverse, take}
use Rattle.name_scopes.specs.Entries.{variable_entries}
use Rattle.name_scopes.proofs.vids.bind_vids.Given as goal

abbrev pub invariant-loop-i : goal.invariant-loop-i
invariant-loop-i l = l.scope ≡ variable_entries (reverse (take l.i l.vids)) ++ l.fn.scope
