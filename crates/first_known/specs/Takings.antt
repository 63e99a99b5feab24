-- How many arguments the functions of a set take, as a checker keeps it.
use Rattle.std.specs.Prelude.{◌≡◌, ℕ, suc, List, [], ◌∷◌, map, Option, Some, None, nat_eq, if◌then◌else◌, slice_get, ⊤}
use Rattle.first_values.specs.Operations.{Member}
use Rattle.first_known.specs.declared.calls.Taking.{Taking}
use Rattle.first_known.specs.declared.calls.Taking.TheVariants.{Any, Each, Differ}

abbrev pub taking_with : Taking → Taking → Taking
taking_with Any b = b
taking_with (Each n) Any = Each n
taking_with (Each n) (Each k) = if nat_eq n k then Each k else Differ
taking_with (Each n) Differ = Differ
taking_with Differ b = Differ

abbrev pub taking_one : Option ℕ → Taking
taking_one None = Differ
taking_one (Some n) = Each n

abbrev pub taking_of : List ℕ → List Member → Taking
taking_of arities [] = Any
taking_of arities (m ∷ ms) = taking_with (taking_one (slice_get arities m.function)) (taking_of arities ms)

abbrev pub takings_of : List ℕ → List (List Member) → List Taking
takings_of arities = map (taking_of arities)

-- one more than so many
abbrev pub FitsTaking : Taking → ℕ → Type 0
FitsTaking Any n = ⊤
FitsTaking (Each k) n = k ≡ suc n
FitsTaking Differ n = ⊥
