use Rattle.std.proofs.Common.{◌≡◌, take}
use Rattle.dec_forms.specs.Entries.{with_types}
use Rattle.dec_forms.proofs.bring.bring_types.Given as goal

abbrev pub invariant-loop-i : goal.invariant-loop-i
invariant-loop-i l = l.context ≡ with_types l.fn.context (take l.i l.types)
