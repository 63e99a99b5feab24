use Rattle.std.proofs.Common.{◌≡◌, map, take}
use Rattle.dec_forms.proofs.bindings.names_of.Given as goal

abbrev pub invariant-loop-i : goal.invariant-loop-i
invariant-loop-i l = l.names.items ≡ map (λ a. a.name) (take l.i l.tyvars)
