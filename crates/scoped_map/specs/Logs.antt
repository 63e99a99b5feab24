-- Bindings that can be undone, the latest first.
use Rattle.std.specs.Prelude.{◌≡◌, ℕ, List, [], ◌∷◌, map, Option, Some, None, nat_eq, ⊤}
use Rattle.std.specs.Map.{lookup}
use Rattle.scoped_map.specs.declared.scoped.Bound.{Bound}

module _ {V : Type 0} where
  abbrev pub entry_of : Bound V → ℕ × V
  entry_of b = (b.key, b.value)

  abbrev pub values_in : List (Bound V) → List (ℕ × V)
  values_in = map entry_of

  -- a value that may be missing
  abbrev pub flat : Option (Option V) → Option V
  flat None = None
  flat (Some k) = k

  -- each binding has the value that its number had before
  abbrev pub HasBefore : List (Bound V) → Type 0
  HasBefore [] = ⊤
  HasBefore (b ∷ bs) = (b.before ≡ lookup (nat_eq b.key) (values_in bs)) × HasBefore bs

  -- the index finds the latest value
  pub record IsLog (bs : List (Bound V)) (index : List (ℕ × Option V)) : Type 0 where
    pub before : HasBefore bs
    pub found : (x : ℕ) → flat (lookup (nat_eq x) index) ≡ lookup (nat_eq x) (values_in bs)
