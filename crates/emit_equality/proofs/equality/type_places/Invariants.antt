use Rattle.std.proofs.Common.{drop}
use Rattle.emit_equality.specs.Ways.{all_shapes}
use Rattle.emit_equality.proofs.Pushed.{PlacesSoFar}
use Rattle.emit_equality.proofs.equality.type_places.Given as goal

abbrev pub invariant-loop-i : goal.invariant-loop-i
invariant-loop-i l = PlacesSoFar (all_shapes l.shapes) (all_shapes (drop l.i l.shapes)) l.places.items l.place
