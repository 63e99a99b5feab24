use Rattle.std.proofs.Common.{◌≡◌, map, take}
use Rattle.use_elab.proofs.put.variables_of.Given as goal

abbrev pub invariant-loop-i : goal.invariant-loop-i
invariant-loop-i l = l.variables.items ≡ map (λ q. q.variable) (take l.i l.parameters)
