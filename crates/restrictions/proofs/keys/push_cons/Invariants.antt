use Rattle.std.proofs.Common.{◌≡◌, ◌++◌, map, take}
use Rattle.restrictions.specs.Keys.{con_key}
use Rattle.restrictions.proofs.keys.push_cons.Given as goal

abbrev pub invariant-loop-i : goal.invariant-loop-i
invariant-loop-i l = l.keys.items ≡ l.fn.keys.items ++ map con_key (take l.i l.cons)
