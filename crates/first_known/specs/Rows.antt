-- What a checker asks of the rows of a table with so many.
use Rattle.std.specs.Prelude.{◌≡◌, ℕ, true, map, nat_lt, ⊤}
use Rattle.std.specs.List.{AllByRecursion}
use Rattle.first_tables.specs.TablesOf.{items_of}
use Rattle.first_tables.specs.declared.tables.Shape.{Shape}
use Rattle.first_tables.specs.declared.tables.Shape.TheVariants.{Numbers, Texts, Cells, References, Opaque}

abbrev pub IsBelow : ℕ → ℕ → Type 0
IsBelow len n = nat_lt n len ≡ true

abbrev pub ShapeBelow : ℕ → Shape → Type 0
ShapeBelow len Numbers = ⊤
ShapeBelow len Texts = ⊤
ShapeBelow len (Cells parts) = AllByRecursion (AllByRecursion (IsBelow len)) (map items_of parts.items)
ShapeBelow len References = ⊤
ShapeBelow len Opaque = ⊤
