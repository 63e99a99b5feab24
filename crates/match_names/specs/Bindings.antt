-- Variables that have got numbers, the latest first.
use Rattle.std.specs.Prelude.{◌≡◌, ℕ, List, [], ◌∷◌, Option, Some, None, nat_eq, ⊤}
use Rattle.std.specs.Map.{lookup}
use Rattle.match_compile.specs.Compile.{Names, no_names, named}
use Rattle.match_names.specs.declared.names.Bound.{Bound}

-- the numbers that variables have
abbrev pub names_of : List (ℕ × ℕ) → Names
names_of [] = no_names
names_of (e ∷ es) = named e.0 e.1 (names_of es)

abbrev pub bindings : List Bound → List (ℕ × ℕ)
bindings [] = []
bindings (b ∷ bs) = (b.variable, b.number) ∷ bindings bs

abbrev pub number_or_none : Option ℕ → ℕ
number_or_none (Some k) = k
number_or_none None = 0

-- each has the number before that it had
abbrev pub IsTrail : List Bound → Type 0
IsTrail [] = ⊤
IsTrail (b ∷ bs) = (b.before ≡ names_of (bindings bs) b.variable) × IsTrail bs

-- the entries say what number a variable has
pub record IsCurrent (entries : List (ℕ × ℕ)) (bound : List Bound) : Type 0 where
  pub numbers : (x : ℕ) → number_or_none (lookup (nat_eq x) entries) ≡ names_of (bindings bound) x
  pub trail : IsTrail bound
