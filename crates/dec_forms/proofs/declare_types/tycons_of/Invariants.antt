use Rattle.std.proofs.Common.{◌≡◌, map, take}
use Rattle.dec_forms.proofs.declare_types.tycons_of.Given as goal

abbrev pub invariant-loop-i : goal.invariant-loop-i
invariant-loop-i l = l.names.items ≡ map (λ e. e.0) (take l.i l.entries)
