use Rattle.std.proofs.Common.{◌≡◌, take}
use Rattle.dec_forms.specs.Telling.{with_all}
use Rattle.dec_forms.specs.Binds.{plain_entries}
use Rattle.dec_forms.proofs.declare_values.bind_plain.Given as goal

abbrev pub invariant-loop-i : goal.invariant-loop-i
invariant-loop-i l = l.context ≡ with_all l.fn.context (plain_entries l.list (take l.i l.bound))
