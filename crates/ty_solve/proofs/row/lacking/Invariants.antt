use Rattle.std.proofs.Common.{take}
use Rattle.mlc_names.specs.declared.label.Label.{Label}
use Rattle.ty_solve.specs.Rows.{Among}
use Rattle.ty_solve.proofs.row.lacking.Given as goal

abbrev pub invariant-loop-i : goal.invariant-loop-i
invariant-loop-i l = (x : Label) → Among x (take l.i l.known) → Among x l.labels
