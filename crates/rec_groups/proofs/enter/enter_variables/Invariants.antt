use Rattle.std.proofs.Common.{◌≡◌, take}
use Rattle.dec_forms.specs.Telling.{with_all}
use Rattle.rec_groups.specs.Heads.{own_entries}
use Rattle.rec_groups.proofs.enter.enter_variables.Given as goal

abbrev pub invariant-loop-i : goal.invariant-loop-i
invariant-loop-i l = l.context ≡ with_all l.fn.context (own_entries (take l.i l.variables))
