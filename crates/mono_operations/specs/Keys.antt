-- A number for each label.
use Rattle.std.specs.Prelude.{ℕ, ◌+◌}
use Rattle.mlc_names.specs.declared.label.Label.{Label}
use Rattle.mlc_names.specs.declared.label.Label.TheVariants.{Number, Word}

-- even those of numbers, odd those of words
abbrev pub label_key : Label → ℕ
label_key (Number n) = n + n
label_key (Word x) = x + x + 1
