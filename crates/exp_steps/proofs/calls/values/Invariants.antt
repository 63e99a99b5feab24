use Rattle.std.proofs.Common.{◌≡◌, take}
use Rattle.exp_steps.specs.Making.{atoms_in}
use Rattle.exp_steps.proofs.calls.values.Given as goal

abbrev pub invariant-loop-i : goal.invariant-loop-i
invariant-loop-i l = l.made.items ≡ atoms_in (take l.i l.fields)
