use Rattle.std.proofs.Common.{◌≡◌, map, take, reverse}
use Rattle.first_tables.specs.TablesOf.{items_of}
use Rattle.closure_meaning.specs.Convert.{part_types}
use Rattle.closure_first.proofs.shapes.parts_of.Given as goal

abbrev pub invariant-loop-i : goal.invariant-loop-i
invariant-loop-i l = map items_of l.parts.items ≡ part_types (take l.i (reverse l.constructors))
