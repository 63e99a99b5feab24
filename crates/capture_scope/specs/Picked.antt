-- Variables at places.
use Rattle.std.specs.Prelude.{◌≡◌, ℕ, suc, Bool, false, List, [], ◌∷◌, Option, Some, None, nat_lt, if◌then◌else◌, slice_get}
use Rattle.closure_convert.specs.of_flow_sets.Member.{is_in}

abbrev pub is_used : List ℕ → Option ℕ → Bool
is_used us None = false
is_used us (Some y) = is_in y us

-- these are the places of those of xs that are used
abbrev pub AtPlaces : (xs us ps : List ℕ) → Type 0
AtPlaces xs us ps = (p : ℕ) → is_in p ps ≡ is_used us (slice_get xs p)

-- what stands at a place, before what is found after it
abbrev pub standing : Option ℕ → (there other : List ℕ) → List ℕ
standing None there other = other
standing (Some y) there other = y ∷ there

-- what stands at these places from the next on, each once
abbrev pub picked : (xs : List ℕ) → (next : ℕ) → List ℕ → List ℕ
picked xs next [] = []
picked xs next (p ∷ ps) = if nat_lt p next then picked xs next ps else standing (slice_get xs p) (picked xs (suc p) ps) (picked xs next ps)
