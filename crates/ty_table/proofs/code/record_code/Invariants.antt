use Rattle.std.proofs.Common.{◌≡◌, ◌∷◌, take}
use Rattle.ty_table.specs.Codes.{labels_code}
use Rattle.ty_table.proofs.code.record_code.Given as goal

abbrev pub invariant-loop-label : goal.invariant-loop-label
invariant-loop-label l = l.code.items ≡ 2 ∷ labels_code (take l.label-index l.labels)
