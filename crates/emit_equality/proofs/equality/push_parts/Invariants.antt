use Rattle.std.proofs.Common.{◌≡◌, ℕ, ◌+◌, length, drop}
use Rattle.emit_equality.specs.Ways.{all_shapes, ArePlaces}
use Rattle.emit_equality.proofs.Pushed.{PartsSoFar}
use Rattle.emit_equality.proofs.equality.push_parts.Given as goal

abbrev pub invariant-loop-i : goal.invariant-loop-i
invariant-loop-i l =
    (o : ℕ) → length l.initial.code.items ≡ 8 + o → ArePlaces (all_shapes l.shapes) l.places l.end
    → PartsSoFar (all_shapes l.shapes) l.parts (drop l.i l.parts) l.initial.code.items l.code.items o l.number
