use Rattle.std.proofs.Common.{◌≡◌, ◌+◌, drop}
use Rattle.machine_routines.specs.EqualCode.{parts_size}
use Rattle.emit_equality.specs.Ways.{all_shapes}
use Rattle.emit_equality.proofs.equality.parts_size.Given as goal

abbrev pub invariant-loop-i : goal.invariant-loop-i
invariant-loop-i l = l.size + parts_size (all_shapes l.shapes) (drop l.i l.parts) ≡ parts_size (all_shapes l.shapes) l.parts
