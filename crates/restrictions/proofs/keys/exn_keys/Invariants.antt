use Rattle.std.proofs.Common.{◌≡◌, map, take}
use Rattle.restrictions.specs.Keys.{exn_key}
use Rattle.restrictions.proofs.keys.exn_keys.Given as goal

abbrev pub invariant-loop-i : goal.invariant-loop-i
invariant-loop-i l = l.keys.items ≡ map exn_key (take l.i l.binds)
