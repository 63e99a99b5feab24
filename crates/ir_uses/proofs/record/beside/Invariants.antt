use Rattle.std.proofs.Common.{◌≡◌, None, zip, take}
use Rattle.std.specs.Map.{lookup}
use Rattle.prog_check.specs.of_ir_values.Values.{same_label}
use Rattle.ir_uses.proofs.record.beside.Given as goal

abbrev pub invariant-loop-i : goal.invariant-loop-i
invariant-loop-i l = lookup (same_label l.label) (zip (take l.i l.labels) (take l.i l.parts)) ≡ None
