-- Variables that stand in a list more than once.
use Rattle.std.specs.Prelude.{ℕ, ◌+◌, ◌≤◌, List, [], ◌∷◌}
use Rattle.ir_plain.specs.Once.{hit}

-- how often k stands there
abbrev pub times_in : (k : ℕ) → List ℕ → ℕ
times_in k [] = 0
times_in k (x ∷ xs) = hit k x + times_in k xs

-- some variable stands there twice
abbrev pub Repeats : List ℕ → Type 0
Repeats xs = (k : ℕ) × (2 ≤ times_in k xs)
