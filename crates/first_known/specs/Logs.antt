-- Bindings that can be undone, the latest first.
use Rattle.std.specs.Prelude.{◌≡◌, ℕ, Bool, false, List, [], ◌∷◌, map, Option, Some, None, nat_eq, ⊤}
use Rattle.std.specs.Map.{lookup}
use Rattle.first_values.specs.WellFormed.{is_among}
use Rattle.first_known.specs.declared.scope.Bound.{Bound}

abbrev pub variables_in : List Bound → List ℕ
variables_in = map (λ b. b.variable)

-- a variable that the index doesn't have isn't in scope
abbrev pub known : Option Bool → Bool
known None = false
known (Some b) = b

-- each binding says whether its variable was in scope before
abbrev pub HasBefore : List Bound → Type 0
HasBefore [] = ⊤
HasBefore (b ∷ bs) = (b.before ≡ is_among b.variable (variables_in bs)) × HasBefore bs

-- the index finds what is in scope
pub record IsLog (bs : List Bound) (index : List (ℕ × Bool)) : Type 0 where
  pub before : HasBefore bs
  pub found : (x : ℕ) → known (lookup (nat_eq x) index) ≡ is_among x (variables_in bs)
