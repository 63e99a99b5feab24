use Rattle.std.proofs.Common.{◌≡◌, length, drop}
use Rattle.emit_equality.specs.Ways.{all_shapes, ArePlaces}
use Rattle.emit_equality.proofs.Pushed.{ShapesSoFar}
use Rattle.emit_equality.proofs.equality.push_equality.Given as goal

abbrev pub invariant-loop-i : goal.invariant-loop-i
invariant-loop-i l =
    length l.fn.code.items ≡ 2 → ArePlaces (all_shapes l.shapes) l.places l.end
    → ShapesSoFar (all_shapes l.shapes) (all_shapes (drop l.i l.shapes)) l.fn.code.items l.code.items
