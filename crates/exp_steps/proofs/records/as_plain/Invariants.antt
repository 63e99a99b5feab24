use Rattle.std.proofs.Common.{◌≡◌, map, take}
use Rattle.exp_steps.specs.Rows.{plain_of}
use Rattle.exp_steps.proofs.records.as_plain.Given as goal

abbrev pub invariant-loop-i : goal.invariant-loop-i
invariant-loop-i l = l.made.items ≡ map plain_of (take l.i l.fields)
