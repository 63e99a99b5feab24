-- Vertices, of which some fall, and with each those that rest on it.
use Rattle.std.specs.Prelude.{◌≡◌, ℕ, Bool, true, false, not, List, [], length, slice_index_or, Contains}

-- the vertices that rest on v
abbrev pub resting : List (List ℕ) → ℕ → List ℕ
resting edges v = slice_index_or edges v []

abbrev pub has_fallen : List Bool → ℕ → Bool
has_fallen marks v = slice_index_or marks v false

-- what is no vertex doesn't stand
abbrev pub stands : List Bool → ℕ → Bool
stands marks v = not (slice_index_or marks v true)

-- the first ones have fallen, and with each vertex all that rest on it
pub record AllFell (edges : List (List ℕ)) (start : List ℕ) (marks : List Bool) : Type 0 where
  pub starts : (v : ℕ) → Contains start v → stands marks v ≡ false
  pub rest : (v w : ℕ) → has_fallen marks v ≡ true → Contains (resting edges v) w → stands marks w ≡ false

-- a property that the first ones have, and that goes over from a vertex to those that rest on it
pub record Spreads (edges : List (List ℕ)) (start : List ℕ) (P : ℕ → Bool) : Type 0 where
  pub starts : (v : ℕ) → Contains start v → P v ≡ true
  pub rest : (v w : ℕ) → P v ≡ true → Contains (resting edges v) w → P w ≡ true

-- whether each vertex has fallen: all have that have to, and no others
pub record IsFall (edges : List (List ℕ)) (start : List ℕ) (marks : List Bool) : Type 0 where
  pub size : length marks ≡ length edges
  pub all : AllFell edges start marks
  pub least : (P : ℕ → Bool) → Spreads edges start P → (v : ℕ) → has_fallen marks v ≡ true → P v ≡ true
