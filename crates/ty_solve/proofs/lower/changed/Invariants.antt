use Rattle.std.proofs.Common.{◌≡◌, take}
use Rattle.ty_solve.specs.Lowering.{variables}
use Rattle.ty_solve.proofs.lower.changed.Given as goal

abbrev pub invariant-loop-kept : goal.invariant-loop-kept
invariant-loop-kept l = l.noted.items ≡ variables (take l.kept-index l.trail)
