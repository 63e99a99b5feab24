use Rattle.std.proofs.Common.{◌≤◌}
use Rattle.datatype_forms.proofs.Variables.{Counted}
use Rattle.datatype_forms.proofs.closed.variables_at.Given as goal

abbrev pub invariant-loop-i : goal.invariant-loop-i
invariant-loop-i l = record { counted : Counted l.fn.types l.types l.i l.numbers.items; most : l.i ≤ l.count }
