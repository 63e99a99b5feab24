use Rattle.std.proofs.Common.{◌≡◌, take}
use Rattle.exp_forms.specs.Rules.{vids_of}
use Rattle.exp_forms.specs.of_elab_context.Telling.{vids_in}
use Rattle.dec_forms.proofs.once.as_bound.Given as goal

abbrev pub invariant-loop-i : goal.invariant-loop-i
invariant-loop-i l = vids_of l.bound.items ≡ vids_in (take l.i l.values)
