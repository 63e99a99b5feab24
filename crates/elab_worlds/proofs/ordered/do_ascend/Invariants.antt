use Rattle.std.proofs.Common.{◌≡◌, ◌+◌, ◌<◌, ◌≤◌, ℕ, true, get_or}
use Rattle.mlc_names.specs.declared.label.Label.{Label}
use Rattle.label_rows.specs.Order.{label_before}
use Rattle.elab_worlds.proofs.ordered.do_ascend.Given as goal

abbrev pub invariant-loop-i : goal.invariant-loop-i
invariant-loop-i l = (1 ≤ l.i) × ((k : ℕ) (d : Label) → k + 1 < l.i → label_before (get_or l.labels k d) (get_or l.labels (k + 1) d) ≡ true)
