use Rattle.std.proofs.Common.{◌≡◌, ◌+◌, length}
use Rattle.ty_solve.specs.Forces.{Problem, IsForced}
use Rattle.ty_solve.specs.Said.{said}
use Rattle.ty_solve.specs.Limits.{limit_at}
use Rattle.ty_solve.specs.Lowering.{undo_limits, variables, sum, Lowering}
use Rattle.ty_solve.proofs.lower.lower.Given as goal

abbrev pub invariant-loop-v : goal.invariant-loop-v
invariant-loop-v l = record {
  undone : undo_limits l.kept.items l.limits.items ≡ undo_limits l.fn.kept.items l.fn.limits.items;
  same_length : length l.limits.items ≡ length l.fn.limits.items;
  lowering : (p : Problem) → IsForced p (said l.s) → Lowering p (said l.s) (limit_at l.fn.limits.items) (limit_at l.fn.limits.items) (variables l.trail) → Lowering p (said l.s) (limit_at l.fn.limits.items) (limit_at l.limits.items) l.noted.items;
}

abbrev pub decreases-loop-v : goal.decreases-loop-v
decreases-loop-v l = sum l.limits.items + length l.noted.items
