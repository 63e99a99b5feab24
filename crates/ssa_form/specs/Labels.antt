-- Labels as the code keeps them.
use Rattle.std.specs.Prelude.{List, map, reverse, Option, Some, None}
use Rattle.ir_ssa.specs.WellFormed as clean
use Rattle.ssa_form.specs.declared.labels.Label.{Label}

abbrev pub label_of : Label → clean.Label
label_of l = record { takes = l.takes; loops = l.loops }

-- the innermost first
abbrev pub labels_of : List Label → List clean.Label
labels_of ls = map label_of (reverse ls)

abbrev pub found_label : Option Label → Option clean.Label
found_label None = None
found_label (Some l) = Some (label_of l)
