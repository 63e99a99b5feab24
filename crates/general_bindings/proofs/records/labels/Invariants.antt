use Rattle.std.proofs.Common.{◌≡◌, take}
use Rattle.general_bindings.specs.General.{labels_from}
use Rattle.general_bindings.proofs.records.labels.Given as goal

abbrev pub invariant-loop-i : goal.invariant-loop-i
invariant-loop-i l = l.made.items ≡ labels_from 1 (take l.i l.spots)
