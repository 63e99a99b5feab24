-- Entries in which each number is once.
use Rattle.std.specs.Prelude.{◌≡◌, ℕ, List, [], ◌∷◌, None, nat_eq, ⊤}
use Rattle.std.specs.Map.{lookup}

abbrev pub IsOnce : {V : Type 0} → List (ℕ × V) → Type 0
IsOnce [] = ⊤
IsOnce (e ∷ es) = (lookup (nat_eq e.0) es ≡ None) × IsOnce es
