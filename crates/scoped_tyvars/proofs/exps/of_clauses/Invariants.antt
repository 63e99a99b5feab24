use Rattle.std.proofs.Common.{◌≡◌, ◌++◌, drop}
use Rattle.std.specs.Prelude.{flat_map}
use Rattle.scoped_tyvars.specs.Unguarded.{clause_tyvars}
use Rattle.scoped_tyvars.proofs.exps.of_clauses.Given as goal

abbrev pub invariant-loop-i : goal.invariant-loop-i
invariant-loop-i l = l.found.items ++ flat_map clause_tyvars (drop l.i l.clauses) ≡ l.fn.found.items ++ flat_map clause_tyvars l.clauses
