-- What is asked and promised of stretches of the memory.
use Rattle.std.specs.Prelude.{◌≡◌, ℕ, ◌+◌, ◌<◌, ◌≤◌, ◌⊎◌, List, ◌∷◌, length, Option, Some, None}
use Rattle.ir_code.specs.Words.{write_at}

-- n words at x and at y are inside, where n is not 0
abbrev pub CopyFits : List ℕ → ℕ → ℕ → ℕ → Type 0
CopyFits memory x y n = (n ≡ 0) ⊎ ((x + n ≤ length memory) × (y + n ≤ length memory))

-- a string was written at a place, unless it has no room there
abbrev pub TextWritten : Option ℕ → List ℕ → ℕ → List ℕ → List ℕ → Type 0
TextWritten None old at text new = (length old < at + 1 + length text) × (new ≡ old)
TextWritten (Some end) old at text new = (end ≡ at + 1 + length text) × (end ≤ length old) × (new ≡ write_at old at (length text ∷ text))
