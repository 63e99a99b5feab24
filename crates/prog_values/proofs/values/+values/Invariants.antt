use Rattle.std.proofs.Common.{◌≡◌, ◌&&◌, drop}
use Rattle.prog_known.specs.Lists.{all_hold}
use Rattle.prog_tree.specs.TreeOf.{Reading}
use Rattle.prog_values.specs.Parts.{field_is_value, join_is_value}
use Rattle.prog_values.proofs.values.+values.Given as goal

abbrev pub invariant-fields_are_values-loop-i : goal.invariant-fields_are_values-loop-i
invariant-fields_are_values-loop-i l = (R : Reading) → (l.so_far && all_hold (field_is_value R) (drop l.i l.fields)) ≡ all_hold (field_is_value R) l.fields

abbrev pub invariant-joins_are_values-loop-i : goal.invariant-joins_are_values-loop-i
invariant-joins_are_values-loop-i l = (R : Reading) → (l.so_far && all_hold (join_is_value R) (drop l.i l.joins)) ≡ all_hold (join_is_value R) l.joins
