use Rattle.std.proofs.Common.{◌≡◌, vec_len}
use Rattle.ty_solve.specs.Lowering.{undo_limits}
use Rattle.ty_solve.proofs.lower.put_back_limits.Given as goal

abbrev pub invariant-loop-last : goal.invariant-loop-last
invariant-loop-last l = undo_limits l.kept.items l.limits.items ≡ undo_limits l.fn.kept.items l.fn.limits.items

abbrev pub decreases-loop-last : goal.decreases-loop-last
decreases-loop-last l = vec_len l.kept
