use Rattle.std.proofs.Common.{◌≡◌, map, take}
use Rattle.ir_uses.proofs.record.labels_are.Given as goal

abbrev pub invariant-loop-i : goal.invariant-loop-i
invariant-loop-i l = map (λ x. x) (take l.i l.labels) ≡ map (λ f. f.0) (take l.i l.fields)
