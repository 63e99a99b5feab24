use Rattle.std.proofs.Common.{◌≡◌, ◌++◌, drop, map}
use Rattle.first_tables.specs.TablesOf.{piece_of}
use Rattle.emit_rows.specs.of_machine_code.Code.{pieces_code}
use Rattle.emit_code.proofs.cell.emit_pieces.Given as goal

abbrev pub invariant-loop-piece : goal.invariant-loop-piece
invariant-loop-piece l =
    l.code.items ++ pieces_code l.depth l.number l.slots (map piece_of (drop l.piece-index l.pieces)) ≡ l.initial.code.items ++ pieces_code l.depth 1 l.slots (map piece_of l.pieces)
