use Rattle.std.proofs.Common.{◌≡◌, map, take}
use Rattle.first_tables.specs.TablesOf.{piece_of}
use Rattle.closure_parts.specs.Puts.{field_pieces}
use Rattle.closure_parts.proofs.operation.record_pieces.Given as goal

abbrev pub invariant-loop-i : goal.invariant-loop-i
invariant-loop-i l = map piece_of l.pieces.items ≡ field_pieces (take l.i l.fields)
