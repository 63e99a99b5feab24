use Rattle.std.proofs.Common.{◌≡◌, map, take}
use Rattle.elab_steps.proofs.rows.labels_of.Given as goal

abbrev pub invariant-loop-i : goal.invariant-loop-i
invariant-loop-i l = l.labels.items ≡ map (λ f. f.label) (take l.i l.fields)
