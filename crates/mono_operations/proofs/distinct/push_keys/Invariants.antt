use Rattle.std.proofs.Common.{◌≡◌, ◌++◌, map, take}
use Rattle.mono_operations.specs.Keys.{label_key}
use Rattle.mono_operations.proofs.distinct.push_keys.Given as goal

abbrev pub invariant-loop-i : goal.invariant-loop-i
invariant-loop-i l = l.keys.items ≡ l.fn.keys.items ++ map label_key (take l.i l.labels)
