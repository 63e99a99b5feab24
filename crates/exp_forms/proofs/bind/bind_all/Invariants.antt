use Rattle.std.proofs.Common.{◌≡◌, take}
use Rattle.exp_forms.specs.Within.{within}
use Rattle.exp_forms.proofs.bind.bind_all.Given as goal

abbrev pub invariant-loop-i : goal.invariant-loop-i
invariant-loop-i l = l.context ≡ within l.fn.context (take l.i l.bound)
