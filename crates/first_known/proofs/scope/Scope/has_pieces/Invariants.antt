use Rattle.std.proofs.Common.{◌↔◌, IsTrue, map, take}
use Rattle.std.specs.List.{AllByRecursion}
use Rattle.first_values.specs.WellFormed.{PieceIn}
use Rattle.first_tables.specs.TablesOf.{piece_of}
use Rattle.first_known.proofs.scope.Scope.has_pieces.Given as goal

abbrev pub invariant-loop-i : goal.invariant-loop-i
invariant-loop-i l = IsTrue l.all ↔ AllByRecursion (λ p. PieceIn l.self (piece_of p)) (take l.i l.pieces)
