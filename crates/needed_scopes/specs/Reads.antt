-- The scopes that the code's lists stand for.
use Rattle.std.specs.Prelude.{◌≡◌, ℕ, ◌-◌, List, [], ◌∷◌, ◌++◌, map, length, reverse, take, drop, Option, Some, None}
use Rattle.mono_sets.specs.Kept as sets
use Rattle.mono_sets.specs.Kept.{lists_of}
use Rattle.needed_scopes.specs.Scopes.{OpenScope, of_variable, of_binding}
use Rattle.needed_scopes.specs.declared.scopes.Scope.{Scope}
use Rattle.needed_scopes.specs.declared.scopes.Scopes.{Scopes}

abbrev pub first_of : List ℕ → ℕ
first_of [] = 0
first_of (x ∷ xs) = x

abbrev pub lists_first : List (List ℕ) → List ℕ
lists_first [] = []
lists_first (ks ∷ ls) = ks

abbrev pub scope_of : Option ℕ → List ℕ → List ℕ → OpenScope
scope_of None vs ks = of_variable (first_of vs)
scope_of (Some u) vs ks = of_binding vs u ks

-- how many of the variables are bound in a scope
abbrev pub own : List (ℕ × ℕ) → Scope → ℕ
own vars s = length vars - s.bound

-- the innermost first
abbrev pub read : List (ℕ × ℕ) → List Scope → List (List ℕ) → List OpenScope
read vars [] ls = []
read vars (s ∷ ss) ls = scope_of s.unit (map (λ e. e.0) (take (own vars s) vars)) (lists_first ls) ∷ read (drop (own vars s) vars) ss (drop 1 ls)

abbrev pub scopes_of : Scopes → List OpenScope
scopes_of s = read s.variables (reverse s.scopes.items) (reverse (lists_of s.needed))

abbrev pub entries : ℕ → List ℕ → List (ℕ × ℕ)
entries n = map (λ x. (x, n))

-- the variables of each scope have its number, and its lists stand at that; the innermost scope is the last one of the code's
pub data Holds : List (ℕ × ℕ) → List Scope → List (List ℕ) → List OpenScope → Type 0 where
  holds_none : Holds [] [] [] []
  holds_variable : {x : ℕ} {vars now : List (ℕ × ℕ)} {ss more : List Scope} {ls lists : List (List ℕ)} {l : List OpenScope} → Holds vars ss ls l
      → now ≡ (x, length ss) ∷ vars → more ≡ ss ++ record { bound = length vars; unit = None } ∷ [] → lists ≡ ls ++ [] ∷ [] → Holds now more lists (of_variable x ∷ l)
  holds_binding : {vs : List ℕ} {u : ℕ} {ks : List ℕ} {vars now : List (ℕ × ℕ)} {ss more : List Scope} {ls lists : List (List ℕ)} {l : List OpenScope} → Holds vars ss ls l
      → now ≡ entries (length ss) vs ++ vars → more ≡ ss ++ record { bound = length vars; unit = Some u } ∷ [] → lists ≡ ls ++ ks ∷ []
      → Holds now more lists (of_binding vs u ks ∷ l)

pub record AreKept (s : Scopes) : Type 0 where
  pub sets : sets.IsKept s.needed
  pub holds : Holds s.variables s.scopes.items (lists_of s.needed) (scopes_of s)
