-- The parts of types, and what constructors take, as types of a table.
use Rattle.std.specs.Prelude.{ℕ, ◌<◌, List, Option, Some, None, length, ⊤}
use Rattle.std.specs.List.{AllByRecursion}
use Rattle.ir_mono.specs.Types.{Node, node, Row}

abbrev pub parts_of : Node → List ℕ
parts_of (node h ps) = ps

-- what a constructor takes is one of n types, if it takes anything
abbrev pub TakesBelow : ℕ → Option ℕ → Type 0
TakesBelow n None = ⊤
TakesBelow n (Some a) = a < n

-- the parts of a type are among n types, and so is what its constructors take
pub record RowBelow (n : ℕ) (r : Row) : Type 0 where
  pub parts : AllByRecursion (λ p. p < n) (parts_of r.type)
  pub taken : AllByRecursion (λ c. TakesBelow n c.1) r.constructors

-- of each type of a table, these are types of the table
abbrev pub HasParts : List Row → Type 0
HasParts types = AllByRecursion (RowBelow (length types)) types
