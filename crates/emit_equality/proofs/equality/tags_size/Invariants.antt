use Rattle.std.proofs.Common.{◌≡◌, ◌+◌, drop}
use Rattle.machine_routines.specs.EqualCode.{tags_size}
use Rattle.emit_equality.specs.Ways.{all_shapes, all_tags}
use Rattle.emit_equality.proofs.equality.tags_size.Given as goal

abbrev pub invariant-loop-i : goal.invariant-loop-i
invariant-loop-i l = l.size + tags_size (all_shapes l.shapes) (all_tags (drop l.i l.tags)) ≡ tags_size (all_shapes l.shapes) (all_tags l.tags)
