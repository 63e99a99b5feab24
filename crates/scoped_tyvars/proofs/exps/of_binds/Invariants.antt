use Rattle.std.proofs.Common.{◌≡◌, ◌++◌, drop}
use Rattle.std.specs.Prelude.{flat_map}
use Rattle.scoped_tyvars.specs.Unguarded.{bind_tyvars}
use Rattle.scoped_tyvars.proofs.exps.of_binds.Given as goal

abbrev pub invariant-loop-i : goal.invariant-loop-i
invariant-loop-i l = l.found.items ++ flat_map bind_tyvars (drop l.i l.binds) ≡ l.fn.found.items ++ flat_map bind_tyvars l.binds
