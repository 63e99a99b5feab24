-- Lists as sets.
use Rattle.std.specs.Prelude.{◌≡◌, ℕ, Bool, true, false, ◌||◌, List, [], ◌∷◌, nat_eq}

abbrev pub is_in : ℕ → List ℕ → Bool
is_in x [] = false
is_in x (y ∷ ys) = nat_eq x y || is_in x ys

-- each of the first is one of the second
pub record Within (xs ys : List ℕ) : Type 0 where
  pub all : (k : ℕ) → is_in k xs ≡ true → is_in k ys ≡ true
