use Rattle.std.proofs.Common.{◌≡◌, take}
use Rattle.core_rules.specs.Scoping.{tyvar_names}
use Rattle.restrictions.proofs.keys.tyvar_keys.Given as goal

abbrev pub invariant-loop-i : goal.invariant-loop-i
invariant-loop-i l = l.keys.items ≡ tyvar_names (take l.i l.tyvars)
