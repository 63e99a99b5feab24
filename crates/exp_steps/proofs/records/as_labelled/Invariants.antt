use Rattle.std.proofs.Common.{◌≡◌, map, take}
use Rattle.exp_steps.specs.Rows.{field_of}
use Rattle.exp_steps.proofs.records.as_labelled.Given as goal

abbrev pub invariant-loop-i : goal.invariant-loop-i
invariant-loop-i l = l.made.items ≡ map field_of (take l.i l.fields)
