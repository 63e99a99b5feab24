-- Where variables are, in the words of the pass.
use Rattle.std.specs.Prelude.{ℕ, List, [], ◌∷◌}
use Rattle.match_compile.specs.Compile.{Spots, spot}
use Rattle.match_steps.specs.of_match_types.Views.{View, value_type}
use Rattle.pattern_tests.specs.declared.spots.Spot.{Spot}

-- those of a list in front of others, its last one first
abbrev pub spots_onto : View → List Spot → Spots → Spots
spots_onto v [] us = us
spots_onto v (s ∷ ss) us = spots_onto v ss (spot s.variable s.number (value_type v s.ty) us)

-- variables with their numbers in front of others
abbrev pub names_onto : List Spot → List (ℕ × ℕ) → List (ℕ × ℕ)
names_onto [] l = l
names_onto (s ∷ ss) l = names_onto ss ((s.variable, s.number) ∷ l)
