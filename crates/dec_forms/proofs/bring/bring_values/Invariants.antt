use Rattle.std.proofs.Common.{◌≡◌, take}
use Rattle.dec_forms.specs.Telling.{with_all}
use Rattle.dec_forms.proofs.bring.bring_values.Given as goal

abbrev pub invariant-loop-i : goal.invariant-loop-i
invariant-loop-i l = l.context ≡ with_all l.fn.context (take l.i l.values)
