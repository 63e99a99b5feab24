-- How long the routines are.
use Rattle.std.specs.Prelude.{ℕ, ◌+◌, ◌*◌, ◌≤◌, List, [], ◌∷◌, length, false}
use Rattle.first_values.specs.Equality.{Shape, numbers, texts, cells, references, opaque}
use Rattle.machine_routines.specs.EqualCode.{equal_code}
use Rattle.machine_routines.specs.FindCode.{Target, way_of, way_code}

-- one for each tag and each part
abbrev pub tags_nodes : List (List ℕ) → ℕ
tags_nodes [] = 0
tags_nodes (ts ∷ rest) = 1 + length ts + tags_nodes rest

abbrev pub shape_nodes : Shape → ℕ
shape_nodes numbers = 1
shape_nodes texts = 1
shape_nodes (cells tags) = 1 + tags_nodes tags
shape_nodes references = 1
shape_nodes opaque = 1

abbrev pub shapes_nodes : List Shape → ℕ
shapes_nodes [] = 0
shapes_nodes (s ∷ ss) = shape_nodes s + shapes_nodes ss

-- equality: at most eleven instructions a node of the types, and eight
abbrev pub EqualIsShort : Type 0
EqualIsShort = (shapes : List Shape) (start most : ℕ) → length (equal_code shapes start most) ≤ 8 + 11 * shapes_nodes shapes

-- going to a member: at most four instructions a member, and two
abbrev pub FindIsShort : Type 0
FindIsShort = (set : List Target) (pc k e p n : ℕ) → length (way_code set pc k e p (way_of false p n set)) ≤ 2 + 4 * length set
