use Rattle.std.proofs.Common.{◌≡◌, ℕ, drop}
use Rattle.machine_routines.specs.EqualCode.{place}
use Rattle.emit_equality.specs.Ways.{all_shapes, all_tags, most}
use Rattle.emit_equality.proofs.Pushed.{TableSoFar}
use Rattle.emit_equality.proofs.equality.push_table.Given as goal

-- so much of the table is there
abbrev pub invariant-loop-i : goal.invariant-loop-i
invariant-loop-i l =
    (o : ℕ) → l.fn.first ≡ place (all_shapes l.shapes) 2 most o
    → TableSoFar (all_shapes l.shapes) (all_tags l.tags) (all_tags (drop l.i l.tags)) l.initial.code.items l.code.items o l.place
