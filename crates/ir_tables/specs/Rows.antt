-- Constructors whose arguments have types by number.
use Rattle.std.specs.Prelude.{◌≡◌, ℕ, Bool, ◌&&◌, List, [], ◌∷◌, map, Option, Some, None, nat_eq, if◌then◌else◌}
use Rattle.std.specs.Option.{option_map}
use Rattle.std.specs.Map.{lookup}
use Rattle.ir_poly.specs.of_ty_core.Types.{Typ}
use Rattle.ty_table.specs.TypeAt.{type_at}
use Rattle.ir_poly.specs.Types as clean
use Rattle.ir_tables.specs.declared.constructors.Constructor.{Constructor}

-- the constructor that a row stands for, where ts are the types of the table
abbrev pub constructor_at : List Typ → Constructor → clean.Constructor
constructor_at ts k = record { datatype = k.datatype; number = k.number; argument = option_map (type_at ts) k.argument }

abbrev pub constructors_at : List Typ → List Constructor → List clean.Constructor
constructors_at ts = map (constructor_at ts)

-- the first row of a datatype's number and a constructor's
abbrev pub find_row : List Constructor → ℕ → ℕ → Option Constructor
find_row [] s n = None
find_row (k ∷ ks) s n = if nat_eq k.datatype.stamp s && nat_eq k.number n then Some k else find_row ks s n

abbrev pub same_key : ℕ × ℕ → ℕ × ℕ → Bool
same_key a b = nat_eq a.0 b.0 && nat_eq a.1 b.1

-- each row is found that is the first with its numbers
abbrev pub IsIndex : List Constructor → List ((ℕ × ℕ) × Constructor) → Type 0
IsIndex ks index = (s n : ℕ) → lookup (same_key (s, n)) index ≡ find_row ks s n
