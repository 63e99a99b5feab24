-- The line that tells a refusal.
use Rattle.std.specs.Prelude.{ℕ, List, [], ◌++◌, Option, Some, None, map, codes, decimal, nat_lt, if◌then◌else◌, slice_get}
use Rattle.mlc_faults.specs.Code.{code_number, code_text}
use Rattle.mlc_faults.specs.File.{File}
use Rattle.mlc_faults.specs.Files.{line_of, column_of}
use Rattle.mlc_faults.specs.declared.code.Code.{Code}
use Rattle.mlc_faults.specs.declared.fault.Fault.{Fault}

-- a byte that isn't ASCII shows as ?
abbrev pub shown_byte : ℕ → ℕ
shown_byte byte = if nat_lt byte 128 then byte else 63

-- a held name, after a space
abbrev pub name_part : Option (List ℕ) → List ℕ
name_part None = []
name_part (Some text) = codes " " ++ map shown_byte text

abbrev pub name_text : List (List ℕ) → Option ℕ → List ℕ
name_text names None = []
name_text names (Some name) = name_part (slice_get names name)

-- FILE:LINE.COL
abbrev pub place_text : Option File → ℕ → List ℕ
place_text None byte = []
place_text (Some file) byte = file.path ++ codes ":" ++ decimal (line_of file.bytes byte) ++ codes "." ++ decimal (column_of file.bytes byte)

-- : Exx TEXT
abbrev pub code_part : Code → List ℕ
code_part code = codes ": E" ++ decimal (code_number code) ++ codes " " ++ code_text code

-- FILE:LINE.COL: Exx TEXT, and the name
abbrev pub fault_text : List File → List (List ℕ) → Fault → List ℕ
fault_text files names fault = place_text (slice_get files fault.place.file) fault.place.byte ++ code_part fault.code ++ name_text names fault.name
