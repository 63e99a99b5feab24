-- The entries that the code has, and where they are found.
use Rattle.std.specs.Prelude.{◌≡◌, ℕ, zero, suc, List, [], ◌∷◌, map, Option, Some, None, nat_eq, if◌then◌else◌}
use Rattle.std.specs.Map.{lookup}
use Rattle.ir_mono.specs.Types as types
use Rattle.closure_convert.specs.Capture as clean

abbrev pub Row : Type 0
Row = types.Row

abbrev pub numbers_of : List clean.Entry → List ℕ
numbers_of = map (λ e. e.number)

-- the place of the first entry of a number, from i on
abbrev pub place_from : (i k : ℕ) → List clean.Entry → Option ℕ
place_from i k [] = None
place_from i k (e ∷ es) = if nat_eq k e.number then Some i else place_from (suc i) k es

abbrev pub IsIndex : List clean.Entry → List (ℕ × ℕ) → Type 0
IsIndex es places = (k : ℕ) → lookup (nat_eq k) places ≡ place_from zero k es
