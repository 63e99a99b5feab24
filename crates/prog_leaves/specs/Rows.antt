-- A label beside a number, as what is sorted by labels.
use Rattle.std.specs.Prelude.{ℕ}
use Rattle.mlc_names.specs.declared.label.Label.{Label}
use Rattle.label_rows.specs.declared.sort.Field.{Field}

abbrev pub field_of : Label × ℕ → Field
field_of p = record { label = p.0; part = p.1 }

abbrev pub pair_of : Field → Label × ℕ
pair_of f = (f.label, f.part)
