use Rattle.std.proofs.Common.{◌≡◌, map, take}
use Rattle.first_tables.specs.TablesOf.{piece_of}
use Rattle.capture_scope.specs.Found.{pieces_of}
use Rattle.closure_meaning.specs.Convert.{piece_list}
use Rattle.closure_parts.proofs.making.cell_pieces.Given as goal

abbrev pub invariant-loop-i : goal.invariant-loop-i
invariant-loop-i l = map piece_of l.made.items ≡ piece_list (pieces_of (take l.i l.pieces))
