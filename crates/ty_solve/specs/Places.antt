-- Where labels stand, by a number for each label.
use Rattle.std.specs.Prelude.{◌+◌, ◌*◌, ℕ, List, Option, take, MatchOption}
use Rattle.mlc_names.specs.declared.label.Label.{Label}
use Rattle.mlc_names.specs.declared.label.Label.TheVariants.{Number, Word}
use Rattle.ty_solve.specs.Rows.{Among}
use Rattle.ty_solve.specs.Fields.{IsPlace}

-- even for numbers, odd for words
abbrev pub label_key : Label → ℕ
label_key (Number n) = n * 2
label_key (Word x) = x * 2 + 1

-- the first n labels have a place, and no others
abbrev pub AreNoted : List Label → ℕ → (ℕ → Option ℕ) → Type 0
AreNoted ls n places = (l : Label) → MatchOption (places (label_key l)) (Among l (take n ls) → ⊥) (IsPlace ls n l)
