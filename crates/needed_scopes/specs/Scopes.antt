-- Scopes, with the numbers of the lists at which what is bound there is needed.
use Rattle.std.specs.Prelude.{ℕ, List, [], ◌∷◌, nat_eq, if◌then◌else◌, ⊤}
use Rattle.std.specs.List.{list_any}
use Rattle.mono_sets.specs.Kept.{with_number}

-- a variable of which nothing is copied; or a binding of some variables whose first copy is at a list, with the others at which it is needed so far, the first
-- one that was found first
pub data OpenScope : Type 0 where
  of_variable : ℕ → OpenScope
  of_binding : List ℕ → ℕ → List ℕ → OpenScope

-- each once, and not the list of the first copy
abbrev pub with_other : ℕ → ℕ → List ℕ → List ℕ
with_other u k ks = if nat_eq u k then ks else with_number k ks

-- a copy of the variable at this list is needed: the innermost scope of it is told so
abbrev pub noted_at : ℕ → ℕ → List OpenScope → List OpenScope
noted_at x k [] = []
noted_at x k (of_variable y ∷ l) = if nat_eq x y then of_variable y ∷ l else of_variable y ∷ noted_at x k l
noted_at x k (of_binding vs u ks ∷ l) = if list_any (nat_eq x) vs then of_binding vs u (with_other u k ks) ∷ l else of_binding vs u ks ∷ noted_at x k l

-- one more variable of the innermost scope
abbrev pub with_variable : ℕ → List OpenScope → List OpenScope
with_variable x [] = []
with_variable x (of_variable y ∷ l) = of_variable y ∷ l
with_variable x (of_binding vs u ks ∷ l) = of_binding (x ∷ vs) u ks ∷ l

abbrev pub IsBinding : List OpenScope → Type 0
IsBinding [] = ⊥
IsBinding (of_variable y ∷ l) = ⊥
IsBinding (of_binding vs u ks ∷ l) = ⊤

abbrev pub needed_first : List OpenScope → List ℕ
needed_first [] = []
needed_first (of_variable y ∷ l) = []
needed_first (of_binding vs u ks ∷ l) = ks
