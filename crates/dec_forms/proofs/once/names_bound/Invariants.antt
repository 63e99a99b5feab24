use Rattle.std.proofs.Common.{◌≡◌, take}
use Rattle.exp_forms.specs.Rules.{vids_of}
use Rattle.dec_forms.specs.Entries.{named_vids}
use Rattle.dec_forms.proofs.once.names_bound.Given as goal

abbrev pub invariant-loop-i : goal.invariant-loop-i
invariant-loop-i l = vids_of l.bound.items ≡ named_vids (take l.i l.names)
