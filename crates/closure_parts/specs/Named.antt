-- Variables that are names of exceptions, as they are found.
use Rattle.std.specs.Prelude.{◌≡◌, ℕ, Bool, true, false, List, nat_eq, unwrap_or}
use Rattle.std.specs.Map.{lookup}
use Rattle.flow_sets.specs.ByType.{Bound, bound_in}
use Rattle.flow_types.specs.of_closure_whole.Converted.{bound_as_name}
use Rattle.mono_bound.specs.declared.bound.What.{What}
use Rattle.mono_bound.specs.declared.bound.What.TheVariants as what

abbrev pub is_of_name : What → Bool
is_of_name (what.Value t) = false
is_of_name what.Name = true
is_of_name (what.Parameter f) = false

abbrev pub name_in : List (ℕ × Bool) → ℕ → Bool
name_in names x = unwrap_or (lookup (nat_eq x) names) false

-- what is bound as a name is one
abbrev pub AreNames : List (ℕ × Bool) → List Bound → Type 0
AreNames names bs = (x : ℕ) → name_in names x ≡ bound_as_name (bound_in x bs)
