use Rattle.std.proofs.Common.{◌≡◌, map, take}
use Rattle.use_elab.proofs.general.marks_of.Given as goal

abbrev pub invariant-loop-i : goal.invariant-loop-i
invariant-loop-i l = l.marks.items ≡ map (λ q. q.mark) (take l.i l.parameters)
