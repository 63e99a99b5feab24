use Rattle.std.proofs.Common.{◌≡◌, vec_len}
use Rattle.ty_solve.specs.Solve.{undo}
use Rattle.ty_solve.proofs.trail.put_back.Given as goal

abbrev pub invariant-loop-kept : goal.invariant-loop-kept
invariant-loop-kept l = undo l.trail.items l.slots.items ≡ undo l.fn.trail.items l.fn.slots.items

abbrev pub decreases-loop-kept : goal.decreases-loop-kept
decreases-loop-kept l = vec_len l.trail
