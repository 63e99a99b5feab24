-- How parts are compared, and where the code of types stands.
use Rattle.std.specs.Prelude.{◌≡◌, ℕ, ◌^◌, List, map, Vec, get_or}
use Rattle.std.specs.Global.{Global}
use Rattle.first_values.specs.Equality as e
use Rattle.first_tables.specs.TablesOf.{items_of, shape_of}
use Rattle.first_tables.specs.declared.tables.Shape.{Shape}
use Rattle.machine_routines.specs.EqualCode as code
use Rattle.emit_equality.specs.declared.equality.Way.{Way}
use Rattle.emit_equality.specs.declared.equality.Way.TheVariants as way

abbrev pub way_in : Way → code.Way
way_in way.ByWord = code.by_word
way_in way.AsLast = code.as_last
way_in way.AsInner = code.as_inner

abbrev pub all_shapes : List Shape → List e.Shape
all_shapes shapes = map shape_of shapes

abbrev pub all_tags : List (Vec ℕ Global) → List (List ℕ)
all_tags tags = map items_of tags

-- no code is as long
abbrev pub most : ℕ
most = 2 ^ 27

-- the routine begins at 2
abbrev pub ArePlaces : List e.Shape → List ℕ → ℕ → Type 0
ArePlaces shapes places end = (t : ℕ) → get_or places t end ≡ code.place shapes 2 most (code.offset_of shapes t)
