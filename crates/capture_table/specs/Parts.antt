-- Entries whose lists are parts of two lists of all.
use Rattle.std.specs.Prelude.{◌≤◌, ℕ, List, [], ◌∷◌, map, slice_range, ⊤}
use Rattle.closure_convert.specs.Capture as clean
use Rattle.capture_scope.specs.declared.piece.Piece as code_piece
use Rattle.capture_scope.specs.Found.{pieces_of}
use Rattle.capture_table.specs.declared.found.Part.{Part}
use Rattle.capture_table.specs.declared.found.Entry.{Entry}

abbrev pub part : {A : Type 0} → List A → Part → List A
part xs p = slice_range xs p.from p.to

abbrev pub entry_in : List ℕ → List code_piece.Piece → Entry → clean.Entry
entry_in vs ps e = record { number = e.number; captured = part vs e.captured; pieces = pieces_of (part ps e.pieces) }

abbrev pub entries_in : List ℕ → List code_piece.Piece → List Entry → List clean.Entry
entries_in vs ps = map (entry_in vs ps)

-- a part of a list of n
abbrev pub IsPart : (n : ℕ) → Part → Type 0
IsPart n p = (p.from ≤ p.to) × (p.to ≤ n)

-- their parts are within lists of n and of m
abbrev pub AreWithin : (n m : ℕ) → List Entry → Type 0
AreWithin n m [] = ⊤
AreWithin n m (e ∷ es) = (IsPart n e.captured × IsPart m e.pieces) × AreWithin n m es
