use Rattle.std.proofs.Common.{◌≡◌, map, take}
use Rattle.restrictions.specs.Keys.{label_key}
use Rattle.restrictions.proofs.keys.ty_keys.Given as goal

abbrev pub invariant-loop-i : goal.invariant-loop-i
invariant-loop-i l = l.keys.items ≡ map (λ f. label_key f.label) (take l.i l.fields)
