use Rattle.std.proofs.Common.{◌≡◌, map, take}
use Rattle.elab_steps.proofs.rows.record_type.Given as goal

abbrev pub invariant-loop-i : goal.invariant-loop-i
invariant-loop-i l = (l.labels.items ≡ map (λ f. f.label) (take l.i l.fields.items)) × (l.parts.items ≡ map (λ f. f.part) (take l.i l.fields.items))
