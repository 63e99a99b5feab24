use Rattle.std.proofs.Common.{◌≡◌, ◌++◌, drop}
use Rattle.std.specs.Prelude.{flat_map}
use Rattle.restrictions.specs.Written.{mark_places, mark_tyvars}
use Rattle.restrictions.proofs.written.part_marks.Given as goal

abbrev pub invariant-loop-i : goal.invariant-loop-i
invariant-loop-i l =
    (l.found.items ++ flat_map mark_places (drop l.i l.marks) ≡ l.fn.found.items ++ flat_map mark_places l.marks)
    × (l.occurring.items ++ flat_map mark_tyvars (drop l.i l.marks) ≡ l.fn.occurring.items ++ flat_map mark_tyvars l.marks)
