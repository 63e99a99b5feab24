use Rattle.std.proofs.Common.{◌≡◌, map, take}
use Rattle.general_bindings.proofs.records.variables.Given as goal

abbrev pub invariant-loop-i : goal.invariant-loop-i
invariant-loop-i l = l.made.items ≡ map (λ q. q.variable) (take l.i l.all)
