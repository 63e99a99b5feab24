use Rattle.std.proofs.Common.{◌≡◌, map}
use Rattle.first_tables.specs.TablesOf.{shape_of}
use Rattle.closure_first.proofs.Parts.{shapes_to}
use Rattle.closure_first.proofs.shapes.shapes.Given as goal

abbrev pub invariant-loop-ty : goal.invariant-loop-ty
invariant-loop-ty l = map shape_of l.made.items ≡ shapes_to 0 l.types l.ty
