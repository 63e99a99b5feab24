use Rattle.std.proofs.Common.{◌≡◌, ◌+◌, drop, map}
use Rattle.first_tables.specs.TablesOf.{piece_of}
use Rattle.emit_rows.specs.of_machine_code.Code.{pieces_count}
use Rattle.emit_code.proofs.cell.count_words.Given as goal

abbrev pub invariant-loop-piece : goal.invariant-loop-piece
invariant-loop-piece l = l.total + pieces_count (map piece_of (drop l.piece-index l.pieces)) ≡ pieces_count (map piece_of l.pieces)
