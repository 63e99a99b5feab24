-- What is known of closed types while a table is made, and what a constructor brings.
use Rattle.std.specs.Prelude.{◌≡◌, ℕ, List, [], Option, Some, None, slice_get}
use Rattle.std.specs.Option.{option_map}
use Rattle.ty_core.specs.Types.{Typ}
use Rattle.ty_table.specs.TypeAt.{type_at}
use Rattle.ir_mono.specs.Types.{Row}
use Rattle.monomorphise.specs.Simple.{nth_part}
use Rattle.monomorphise.specs.Table.{number_in, with_argument}
use Rattle.mono_place.specs.Placing.{AreRight}
use Rattle.mono_enter.specs.declared.constructors.Found.{Found}

-- closed types that are known have their numbers
abbrev pub Knows : List Typ → (ℕ → Option ℕ) → List Row → Type 0
Knows closed known types = AreRight closed (nth_part []) known types

-- the numbers that are known are those that types have
abbrev pub HaveNumbers : List Typ → (ℕ → Option ℕ) → List Row → Type 0
HaveNumbers closed known types = (k n : ℕ) → known k ≡ Some n → number_in types (type_at closed k) ≡ n

-- what is known stays so, and rows that are there stay
pub record Keeps (old new : List Row) : Type 0 where
  pub known : (closed : List Typ) (known : ℕ → Option ℕ) → Knows closed known old → Knows closed known new
  pub rows : (n : ℕ) (r : Row) → slice_get old n ≡ Some r → slice_get new n ≡ Some r

-- the table with a constructor that is found, if one is
abbrev pub with_found_row : List Typ → List Row → ℕ → Row → ℕ → Option Found → List Row
with_found_row ts types n r c None = types
with_found_row ts types n r c (Some f) = with_argument types n r c f.parts.items (option_map (type_at ts) f.argument)
