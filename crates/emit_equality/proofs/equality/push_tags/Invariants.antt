use Rattle.std.proofs.Common.{◌≡◌, ℕ, ◌+◌, length, drop}
use Rattle.emit_equality.specs.Ways.{all_shapes, all_tags, ArePlaces}
use Rattle.emit_equality.proofs.Pushed.{TagsSoFar}
use Rattle.emit_equality.proofs.equality.push_tags.Given as goal

abbrev pub invariant-loop-i : goal.invariant-loop-i
invariant-loop-i l =
    (o : ℕ) → length l.initial.code.items ≡ 8 + o → ArePlaces (all_shapes l.shapes) l.places l.end
    → TagsSoFar (all_shapes l.shapes) (all_tags l.tags) (all_tags (drop l.i l.tags)) l.initial.code.items l.code.items o
