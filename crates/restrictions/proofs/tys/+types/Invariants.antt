use Rattle.restrictions.specs.Nodes.{field_ty_places, ty_part_places, ty_places}
use Rattle.restrictions.proofs.Standing.{Comes}
use Rattle.restrictions.proofs.tys.+types.Given as goal

abbrev pub invariant-of_fields-loop-i : goal.invariant-of_fields-loop-i
invariant-of_fields-loop-i l = Comes field_ty_places l.fields l.i l.fn.found.items l.found.items

abbrev pub invariant-of_tys-loop-i : goal.invariant-of_tys-loop-i
invariant-of_tys-loop-i l = Comes ty_places l.tys l.i l.fn.found.items l.found.items

abbrev pub invariant-of_parts-loop-i : goal.invariant-of_parts-loop-i
invariant-of_parts-loop-i l = Comes ty_part_places l.parts l.i l.fn.found.items l.found.items
