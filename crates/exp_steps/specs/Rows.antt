-- The fields of a record, as what is sorted by labels.
use Rattle.label_rows.specs.declared.sort.Field.{Field as Labelled}
use Rattle.plain_tree.specs.declared.tree.Field.{Field}

abbrev pub field_of : Field → Labelled
field_of f = record { label = f.label; part = f.atom }

abbrev pub plain_of : Labelled → Field
plain_of f = record { label = f.label; atom = f.part }
