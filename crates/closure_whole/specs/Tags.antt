-- Tags of functions. Where no function stands twice in the sets, its place in its set is its tag, so those of a set are 0, 1, 2 and so on; elsewhere its number
-- is.
use Rattle.std.specs.Prelude.{◌≡◌, ℕ, zero, suc, Bool, true, false, List, [], ◌∷◌, if◌then◌else◌, ⊤}
use Rattle.std.specs.List.{AllByRecursion, concat}
use Rattle.first_values.specs.Operations.{Member}
use Rattle.flow_sets.specs.Member.{is_in}
use Rattle.closure_convert.specs.Scope.{index_of}

abbrev pub stand_once : List ℕ → Bool
stand_once [] = true
stand_once (k ∷ ks) = if is_in k ks then false else stand_once ks

-- the place of a function in the first set that has it
abbrev pub place_in : List (List ℕ) → ℕ → ℕ
place_in [] k = k
place_in (set ∷ sets) k = if is_in k set then index_of k set else place_in sets k

abbrev pub tag_by : List (List ℕ) → ℕ → ℕ
tag_by sets k = if stand_once (concat sets) then place_in sets k else k

-- the members of a set have the tags from this one on, each the next
abbrev pub Count : (tag : ℕ) → List Member → Type 0
Count tag [] = ⊤
Count tag (m ∷ ms) = (m.tag ≡ tag) × Count (suc tag) ms

-- the members of each set have the tags 0, 1, 2 and so on
abbrev pub AreDense : List (List Member) → Type 0
AreDense sets = AllByRecursion (Count zero) sets
