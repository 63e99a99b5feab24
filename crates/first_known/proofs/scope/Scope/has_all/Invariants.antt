use Rattle.std.proofs.Common.{◌↔◌, IsTrue, take}
use Rattle.first_values.specs.WellFormed.{AreIn}
use Rattle.first_known.proofs.scope.Scope.has_all.Given as goal

abbrev pub invariant-loop-i : goal.invariant-loop-i
invariant-loop-i l = IsTrue l.all ↔ AreIn l.self (take l.i l.variables)
