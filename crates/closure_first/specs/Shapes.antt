-- Shapes by the number of a type's name, and the types of what constructors take.
use Rattle.std.specs.Prelude.{ℕ, List, [], ◌∷◌, ◌++◌, Option, None, Some, nat_eq, if◌then◌else◌}
use Rattle.ir_poly.specs.Types.{int_name, word_name, char_name, string_name, ref_name}
use Rattle.first_values.specs.Equality.{Shape, numbers, texts, references, cells}
use Rattle.closure_meaning.specs.Convert.{argument_types}

-- of a type whose name has this number, with these parts at each tag
abbrev pub by_stamp : ℕ → List (List ℕ) → Shape
by_stamp s parts =
    if nat_eq s string_name.stamp then texts
    else (if nat_eq s ref_name.stamp then references
    else (if nat_eq s int_name.stamp then numbers
    else (if nat_eq s word_name.stamp then numbers
    else (if nat_eq s char_name.stamp then numbers else cells parts))))

-- with what one more constructor takes
abbrev pub parts_next : List (List ℕ) → Option (Option ℕ) → List (List ℕ)
parts_next l None = l
parts_next l (Some a) = l ++ argument_types a ∷ []
