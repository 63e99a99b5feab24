use Rattle.std.proofs.Common.{◌≡◌, map, take}
use Rattle.prog_leaves.specs.Rows.{field_of}
use Rattle.prog_leaves.proofs.rows.as_fields.Given as goal

abbrev pub invariant-loop-i : goal.invariant-loop-i
invariant-loop-i l = l.made.items ≡ map field_of (take l.i l.row)
