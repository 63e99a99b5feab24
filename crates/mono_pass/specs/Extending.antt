-- A table of types with further ones behind.
use Rattle.std.specs.Prelude.{◌≡◌, ℕ, List, length, take}
use Rattle.ty_core.specs.Types.{Typ, var}
use Rattle.ty_table.specs.TypeAt.{type_at}

-- the first types stay, so many, and the first variable is among all
pub record Extends (old new : List Typ) (known variable : ℕ) : Type 0 where
  pub known_is : known ≡ length old
  pub stay : take (length old) new ≡ old
  pub variable_is : type_at new variable ≡ var 0
