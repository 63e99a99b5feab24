use Rattle.std.proofs.Common.{take}
use Rattle.std.specs.Prelude.{sum_by}
use Rattle.prog_binders.specs.Adding.{Adds, pat_field_times, pat_part_times}
use Rattle.prog_binders.proofs.pats.+pats.Given as goal

abbrev pub invariant-push_fields-loop-i : goal.invariant-push_fields-loop-i
invariant-push_fields-loop-i l = Adds l.fn.found.items l.found.items (λ R h. sum_by (pat_field_times R h) (take l.i l.fields))

abbrev pub invariant-push_parts-loop-i : goal.invariant-push_parts-loop-i
invariant-push_parts-loop-i l = Adds l.fn.found.items l.found.items (λ R h. sum_by (pat_part_times R h) (take l.i l.parts))
