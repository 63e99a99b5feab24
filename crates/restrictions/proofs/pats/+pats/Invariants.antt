use Rattle.restrictions.specs.Nodes.{field_pat_places, pat_part_places, pat_places}
use Rattle.restrictions.proofs.Standing.{Comes}
use Rattle.restrictions.proofs.pats.+pats.Given as goal

abbrev pub invariant-of_fields-loop-i : goal.invariant-of_fields-loop-i
invariant-of_fields-loop-i l = Comes field_pat_places l.fields l.i l.fn.found.items l.found.items

abbrev pub invariant-of_pats-loop-i : goal.invariant-of_pats-loop-i
invariant-of_pats-loop-i l = Comes pat_places l.pats l.i l.fn.found.items l.found.items

abbrev pub invariant-of_parts-loop-i : goal.invariant-of_parts-loop-i
invariant-of_parts-loop-i l = Comes pat_part_places l.parts l.i l.fn.found.items l.found.items
