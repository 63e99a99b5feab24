use Rattle.std.proofs.Common.{◌≡◌, map, take}
use Rattle.prog_leaves.specs.Rows.{pair_of}
use Rattle.prog_leaves.proofs.rows.as_pairs.Given as goal

abbrev pub invariant-loop-i : goal.invariant-loop-i
invariant-loop-i l = l.made.items ≡ map pair_of (take l.i l.fields)
