-- The order of labels.
use Rattle.std.specs.Prelude.{ℕ, ◌<◌, List, [], length, Option, Some, None, slice_get}
use Rattle.std.specs.Cmp.Lexicographic.{slice_cmp}
use Rattle.std.specs.Ordering.{nat_cmp}
use Rattle.std.specs.declared.cmp.Ordering.{Ordering}
use Rattle.std.specs.declared.cmp.Ordering.TheVariants.{Less, Greater}
use Rattle.mlc_names.specs.declared.label.Label.{Label}
use Rattle.mlc_names.specs.declared.label.Label.TheVariants.{Number, Word}

-- the bytes of a held name
abbrev pub held_text : Option (List ℕ) → List ℕ
held_text None = []
held_text (Some text) = text

-- numbers by value, then words by bytes
abbrev pub label_cmp : List (List ℕ) → Label → Label → Ordering
label_cmp names (Number m) (Number n) = nat_cmp m n
label_cmp names (Number m) (Word x) = Less
label_cmp names (Word x) (Number n) = Greater
label_cmp names (Word x) (Word y) = slice_cmp nat_cmp (held_text (slice_get names x)) (held_text (slice_get names y))

-- the name of a word is held
abbrev pub IsHeld : List (List ℕ) → Label → Type 0
IsHeld names (Number n) = Unit {0}
IsHeld names (Word x) = x < length names
