use Rattle.std.proofs.Common.{◌≡◌, ◌+◌, ◌<◌, ◌≤◌, ℕ, true, get_or}
use Rattle.label_rows.specs.Order.{label_before}
use Rattle.label_rows.specs.declared.sort.Field.{Field}
use Rattle.elab_steps.proofs.rows.are_ascending.Given as goal

abbrev pub invariant-loop-i : goal.invariant-loop-i
invariant-loop-i l = (1 ≤ l.i) × ((k : ℕ) (d : Field) → k + 1 < l.i → label_before (get_or l.fields k d).label (get_or l.fields (k + 1) d).label ≡ true)
