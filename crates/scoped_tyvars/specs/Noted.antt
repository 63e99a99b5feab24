-- Names of type variables that are in scope, or were noted.
use Rattle.std.specs.Prelude.{◌≡◌, ◌||◌, ℕ, Bool, true, List, [], ◌∷◌, ◌++◌, map, is_some, nat_eq}
use Rattle.std.specs.Map.{lookup}
use Rattle.sml_tree.specs.declared.ident.Tyvar.{Tyvar}
use Rattle.core_rules.specs.Scoping.{new_vars}
use Rattle.core_rules.specs.Words.{is_in}

abbrev pub names_around : List (ℕ × ℕ) → List ℕ
names_around = map (λ a. a.0)

-- the names of type variables in front of others
abbrev pub names_onto : List (ℕ × Bool) → List Tyvar → List (ℕ × Bool)
names_onto l [] = l
names_onto l (a ∷ as_) = names_onto ((a.name, true) ∷ l) as_

abbrev pub is_noted : List (ℕ × ℕ) → List (ℕ × Bool) → ℕ → Bool
is_noted around noted x = is_some (lookup (nat_eq x) around) || is_some (lookup (nat_eq x) noted)

-- these names are all that are in scope around, or were noted
abbrev pub HasNoted : List (ℕ × ℕ) → List (ℕ × Bool) → List ℕ → Type 0
HasNoted around noted names = (x : ℕ) → is_in nat_eq x names ≡ is_noted around noted x

-- what one type variable adds, before the others
pub record IsAdded (around : List (ℕ × ℕ)) (names : List ℕ) (a : Tyvar) (rest : List Tyvar) (old new : List Tyvar) (noted : List (ℕ × Bool)) : Type 0 where
  pub after : List ℕ
  pub all : HasNoted around noted after
  pub is : new ++ new_vars after rest ≡ old ++ new_vars names (a ∷ rest)
