use Rattle.std.proofs.Common.{◌≡◌, ◌++◌, drop}
use Rattle.std.specs.Prelude.{flat_map}
use Rattle.scoped_tyvars.specs.Unguarded.{dec_tyvars}
use Rattle.scoped_tyvars.proofs.exps.+decs.Given as goal

abbrev pub invariant-of_decs-loop-i : goal.invariant-of_decs-loop-i
invariant-of_decs-loop-i l = l.found.items ++ flat_map dec_tyvars (drop l.i l.decs) ≡ l.fn.found.items ++ flat_map dec_tyvars l.decs
