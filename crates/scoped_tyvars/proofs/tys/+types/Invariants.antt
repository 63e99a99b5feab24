use Rattle.std.proofs.Common.{◌≡◌, ◌++◌, drop}
use Rattle.std.specs.Prelude.{flat_map}
use Rattle.scoped_tyvars.specs.Unguarded.{field_ty_tyvars, ty_part_tyvars, ty_tyvars}
use Rattle.scoped_tyvars.proofs.tys.+types.Given as goal

abbrev pub invariant-of_fields-loop-i : goal.invariant-of_fields-loop-i
invariant-of_fields-loop-i l = l.found.items ++ flat_map field_ty_tyvars (drop l.i l.fields) ≡ l.fn.found.items ++ flat_map field_ty_tyvars l.fields

abbrev pub invariant-of_tys-loop-i : goal.invariant-of_tys-loop-i
invariant-of_tys-loop-i l = l.found.items ++ flat_map ty_tyvars (drop l.i l.tys) ≡ l.fn.found.items ++ flat_map ty_tyvars l.tys

abbrev pub invariant-of_parts-loop-i : goal.invariant-of_parts-loop-i
invariant-of_parts-loop-i l = l.found.items ++ flat_map ty_part_tyvars (drop l.i l.parts) ≡ l.fn.found.items ++ flat_map ty_part_tyvars l.parts
