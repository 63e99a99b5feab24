use Rattle.std.proofs.Common.{◌≡◌, ◌++◌, drop}
use Rattle.std.specs.Prelude.{flat_map}
use Rattle.scoped_tyvars.specs.Unguarded.{field_pat_tyvars, pat_part_tyvars, pat_tyvars}
use Rattle.scoped_tyvars.proofs.pats.+pats.Given as goal

abbrev pub invariant-of_fields-loop-i : goal.invariant-of_fields-loop-i
invariant-of_fields-loop-i l = l.found.items ++ flat_map field_pat_tyvars (drop l.i l.fields) ≡ l.fn.found.items ++ flat_map field_pat_tyvars l.fields

abbrev pub invariant-of_pats-loop-i : goal.invariant-of_pats-loop-i
invariant-of_pats-loop-i l = l.found.items ++ flat_map pat_tyvars (drop l.i l.pats) ≡ l.fn.found.items ++ flat_map pat_tyvars l.pats

abbrev pub invariant-of_parts-loop-i : goal.invariant-of_parts-loop-i
invariant-of_parts-loop-i l = l.found.items ++ flat_map pat_part_tyvars (drop l.i l.parts) ≡ l.fn.found.items ++ flat_map pat_part_tyvars l.parts
