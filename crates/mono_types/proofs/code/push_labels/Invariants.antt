use Rattle.std.proofs.Common.{◌≡◌, ◌++◌, take}
use Rattle.ty_table.specs.Codes.{labels_code}
use Rattle.mono_types.proofs.code.push_labels.Given as goal

abbrev pub invariant-loop-i : goal.invariant-loop-i
invariant-loop-i l = l.code.items ≡ l.fn.code.items ++ labels_code (take l.i l.labels)
