-- Tags of functions, as they are found by hash.
use Rattle.std.specs.Prelude.{◌≡◌, ℕ, List, [], ◌∷◌, Option, Some, None, nat_eq, unwrap_or, if◌then◌else◌}
use Rattle.std.specs.Map.{lookup}
use Rattle.flow_sets.specs.Member.{is_in}
use Rattle.closure_convert.specs.Scope.{index_of}
use Rattle.closure_meaning.specs.Convert.{Numbering}
use Rattle.closure_parts.specs.declared.tags.Tags.{Tags}

abbrev pub tag_in : Tags → ℕ → ℕ
tag_in tags k = if tags.once then unwrap_or (lookup (nat_eq k) tags.places.entries) k else k

-- they are those of these numbers
abbrev pub HasTags : Tags → Numbering → Type 0
HasTags tags n = (k : ℕ) → tag_in tags k ≡ n.tag k

-- the place of a function in the first set that has it, if one has
abbrev pub placed : List (List ℕ) → ℕ → Option ℕ
placed [] k = None
placed (set ∷ sets) k = if is_in k set then Some (index_of k set) else placed sets k

abbrev pub ArePlaced : List (ℕ × ℕ) → List (List ℕ) → Type 0
ArePlaced places sets = (k : ℕ) → lookup (nat_eq k) places ≡ placed sets k
