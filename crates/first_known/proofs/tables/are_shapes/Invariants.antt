use Rattle.std.proofs.Common.{◌↔◌, IsTrue, map, take}
use Rattle.std.specs.List.{AllByRecursion}
use Rattle.first_values.specs.WellFormed.{Rise}
use Rattle.first_tables.specs.TablesOf.{items_of, member_of, set_of}
use Rattle.first_known.specs.Rows.{IsBelow, ShapeBelow}
use Rattle.first_known.proofs.tables.are_shapes.Given as goal

abbrev pub invariant-loop-i : goal.invariant-loop-i
invariant-loop-i l = IsTrue l.all ↔ AllByRecursion (ShapeBelow l.len) (take l.i l.shapes)
