use Rattle.std.proofs.Common.{◌≡◌, ◌++◌, map, take}
use Rattle.restrictions.proofs.keys.push_data_names.Given as goal

abbrev pub invariant-loop-i : goal.invariant-loop-i
invariant-loop-i l = l.keys.items ≡ l.fn.keys.items ++ map (λ b. b.tycon) (take l.i l.binds)
