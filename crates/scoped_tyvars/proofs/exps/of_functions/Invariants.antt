use Rattle.std.proofs.Common.{◌≡◌, ◌++◌, drop}
use Rattle.std.specs.Prelude.{flat_map}
use Rattle.scoped_tyvars.specs.Unguarded.{function_tyvars}
use Rattle.scoped_tyvars.proofs.exps.of_functions.Given as goal

abbrev pub invariant-loop-i : goal.invariant-loop-i
invariant-loop-i l = l.found.items ++ flat_map function_tyvars (drop l.i l.functions) ≡ l.fn.found.items ++ flat_map function_tyvars l.functions
