-- Segments of paths, as the code has them.
use Rattle.std.specs.Prelude.{ℕ, Bool, false, List, [], ◌∷◌, map, reverse}
use Rattle.std.specs.Borrow.{Bor}
use Rattle.mlb_reader.specs.Path.{is_name}

abbrev pub texts_of : List (Bor (List ℕ)) → List (List ℕ)
texts_of = map (λ segment. segment.now)

-- the first segment is a folder's name
abbrev pub begins_in_name : List (List ℕ) → Bool
begins_in_name [] = false
begins_in_name (s ∷ ss) = is_name s

abbrev pub ends_in_name : List (List ℕ) → Bool
ends_in_name segments = begins_in_name (reverse segments)
