use Rattle.std.proofs.Common.{◌≡◌, map, take}
use Rattle.prog_tree.specs.TreeOf.{Reading, pat_field_of, pat_part_of}
use Rattle.prog_renumber.specs.Renumbered.{renumbered}
use Rattle.prog_renumber.proofs.pats.+patterns.Given as goal

abbrev pub invariant-pattern_fields-loop-i : goal.invariant-pattern_fields-loop-i
invariant-pattern_fields-loop-i l = (Q : Reading) → map (pat_field_of Q) l.made.items ≡ map (pat_field_of (renumbered l.numbers Q)) (take l.i l.fields)

abbrev pub invariant-pattern_parts-loop-i : goal.invariant-pattern_parts-loop-i
invariant-pattern_parts-loop-i l = (Q : Reading) → map (pat_part_of Q) l.made.items ≡ map (pat_part_of (renumbered l.numbers Q)) (take l.i l.parts)
