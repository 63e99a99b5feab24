use Rattle.std.proofs.Common.{◌≡◌, length}
use Rattle.ty_table.specs.TypeAt.{types_at}
use Rattle.ty_solve.specs.Weight.{weights}
use Rattle.ty_solve.specs.Lowering.{undo_limits}
use Rattle.ty_solve.proofs.Falling.{Walked}
use Rattle.ty_solve.proofs.lower.lower_types.Given as goal

abbrev pub invariant-loop-next : goal.invariant-loop-next
invariant-loop-next l = record {
  undone : undo_limits l.kept.items l.limits.items ≡ undo_limits l.fn.kept.items l.fn.limits.items;
  same_length : length l.limits.items ≡ length l.fn.limits.items;
  walked : Walked l.types l.fn.parts.items l.to l.fn.limits.items l.limits.items l.fn.noted.items l.noted.items l.seen.keys l.pending.items;
}

abbrev pub decreases-loop-next : goal.decreases-loop-next
decreases-loop-next l = weights (λ v. 0) (types_at l.types l.pending.items)
