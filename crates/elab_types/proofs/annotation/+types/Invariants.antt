use Rattle.std.proofs.Common.{◌≡◌, map, take}
use Rattle.sml_tree.specs.TreeOf.{ty_of, ty_field_of, ty_part_of}
use Rattle.elab_types.specs.Building.{labels_of, parts_of}
use Rattle.elab_types.specs.Annotations.{labels_at}
use Rattle.elab_types.proofs.Keeping.{Collected}
use Rattle.elab_types.proofs.annotation.+types.Given as goal

abbrev pub invariant-numbers_of-loop-i : goal.invariant-numbers_of-loop-i
invariant-numbers_of-loop-i l = Collected l.fn.types l.types l.scope (map ty_of (take l.i l.tys)) l.numbers.items

abbrev pub invariant-fields_of-loop-i : goal.invariant-fields_of-loop-i
invariant-fields_of-loop-i l = Collected l.fn.types l.types l.scope (map (λ a. (ty_field_of a).ty) (take l.i l.fields)) (parts_of l.made.items) × (labels_of l.made.items ≡ labels_at (take l.i l.fields))

abbrev pub invariant-results_of-loop-i : goal.invariant-results_of-loop-i
invariant-results_of-loop-i l = Collected l.fn.types l.types l.scope (map (λ a. (ty_part_of a).ty) (take l.i l.parts)) l.numbers.items
