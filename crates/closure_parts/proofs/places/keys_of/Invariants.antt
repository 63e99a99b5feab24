use Rattle.std.proofs.Common.{◌≡◌, map, take}
use Rattle.closure_parts.specs.Indexed.{label_key}
use Rattle.closure_parts.proofs.places.keys_of.Given as goal

abbrev pub invariant-loop-i : goal.invariant-loop-i
invariant-loop-i l = l.keys.items ≡ map label_key (take l.i l.labels)
