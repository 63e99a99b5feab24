-- Places that were found, and what they stand for.
use Rattle.std.specs.Prelude.{◌≡◌, ℕ, List, [], ◌∷◌, ◌++◌, map, Option, Some, None}
use Rattle.std.specs.List.{Contains}
use Rattle.mlc_base.specs.declared.place.Place.{Place}
use Rattle.restrictions.specs.declared.walk.Walk.{Walk}

-- these places are some of those, and none only where there are none of those
pub record StandFor (found places : List Place) : Type 0 where
  pub some : (p : Place) → Contains found p → Contains places p
  pub none : found ≡ [] → places ≡ []

-- what was added stands for these places
pub record Adds (old new places : List Place) : Type 0 where
  pub added : List Place
  pub is : new ≡ old ++ added
  pub stands : StandFor added places

-- a place that may be there
abbrev pub place_in : Option Place → List Place
place_in None = []
place_in (Some p) = p ∷ []

-- the names in scope
abbrev pub names_in : List (ℕ × ℕ) → List ℕ
names_in = map (λ a. a.0)

-- these names in front of what is in scope
abbrev pub noted_onto : List ℕ → List (ℕ × ℕ) → List (ℕ × ℕ)
noted_onto ks noted = map (λ k. (k, 0)) ks ++ noted

-- a walk through a phrase in which these places are broken
pub record Walks (old new : Walk) (places : List Place) : Type 0 where
  pub found : Adds old.found.items new.found.items places
  pub around : new.around ≡ old.around
