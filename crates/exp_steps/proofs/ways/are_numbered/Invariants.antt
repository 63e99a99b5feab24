use Rattle.std.proofs.Common.{◌≡◌, ◌+◌, drop}
use Rattle.exp_steps.specs.Ways.{labels_from}
use Rattle.exp_steps.proofs.ways.are_numbered.Given as goal

abbrev pub invariant-loop-i : goal.invariant-loop-i
invariant-loop-i l = labels_from (l.i + 1) (drop l.i l.fields) ≡ labels_from 1 l.fields
