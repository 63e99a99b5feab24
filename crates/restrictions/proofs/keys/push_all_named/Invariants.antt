use Rattle.std.proofs.Common.{◌≡◌, ◌++◌, drop}
use Rattle.std.specs.Prelude.{flat_map}
use Rattle.restrictions.specs.Nodes.{named_types}
use Rattle.restrictions.proofs.keys.push_all_named.Given as goal

abbrev pub invariant-loop-i : goal.invariant-loop-i
invariant-loop-i l = l.keys.items ++ flat_map named_types (drop l.i l.decs) ≡ l.fn.keys.items ++ flat_map named_types l.decs
