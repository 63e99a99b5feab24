-- Places in files.
use Rattle.std.specs.Prelude.{ℕ, ◌+◌, ◌^◌, ◌<◌, ◌≤◌, Bool, not, ◌==◌, List, Option, Some, None, take, length, count_by, slice_get}
use Rattle.std.specs.List.{suffix_len}
use Rattle.mlc_faults.specs.File.{File}
use Rattle.mlc_base.specs.declared.place.Place.{Place}

abbrev pub is_newline : ℕ → Bool
is_newline byte = byte == 10

-- the line of the byte at this index: one more than the newlines before it
abbrev pub line_of : List ℕ → ℕ → ℕ
line_of bytes at = count_by is_newline (take at bytes) + 1

abbrev pub is_in_line : ℕ → Bool
is_in_line byte = not (is_newline byte)

-- the column of the byte at this index: one more than the bytes right before it that are no newline
abbrev pub column_of : List ℕ → ℕ → ℕ
column_of bytes at = suffix_len is_in_line (take at bytes) + 1

abbrev pub LiesInFile : ℕ → Option File → Type 0
LiesInFile byte None = ⊥
LiesInFile byte (Some file) = byte ≤ length file.bytes

-- the place is a byte of a file or that file's end
abbrev pub LiesIn : Place → List File → Type 0
LiesIn place files = LiesInFile place.byte (slice_get files place.file) × (place.byte + 1 < 2 ^ 32)
