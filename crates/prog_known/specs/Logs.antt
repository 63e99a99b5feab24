-- Bindings that can be undone, the latest first.
use Rattle.std.specs.Prelude.{◌≡◌, ℕ, List, [], ◌∷◌, map, Option, Some, None, nat_eq, ⊤}
use Rattle.std.specs.Map.{lookup}
use Rattle.ir_known.specs.declared.known.Known.{Known}
use Rattle.prog_known.specs.declared.variables.Bound.{Bound}

abbrev pub entry_of : Bound → ℕ × Known
entry_of b = (b.variable, b.known)

abbrev pub known_in : List Bound → List (ℕ × Known)
known_in = map entry_of

-- a value that may be known to be missing
abbrev pub flat : Option (Option Known) → Option Known
flat None = None
flat (Some k) = k

-- each binding has what was known of its variable before
abbrev pub HasBefore : List Bound → Type 0
HasBefore [] = ⊤
HasBefore (b ∷ bs) = (b.before ≡ lookup (nat_eq b.variable) (known_in bs)) × HasBefore bs

-- the index finds what is known
pub record IsLog (bs : List Bound) (index : List (ℕ × Option Known)) : Type 0 where
  pub before : HasBefore bs
  pub found : (x : ℕ) → flat (lookup (nat_eq x) index) ≡ lookup (nat_eq x) (known_in bs)
