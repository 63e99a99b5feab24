use Rattle.std.proofs.Common.{◌≡◌, ◌++◌, drop}
use Rattle.emit_rows.specs.of_machine_code.Code.{depths_in}
use Rattle.emit_code.proofs.put.depths_of.Given as goal

abbrev pub invariant-loop-variable : goal.invariant-loop-variable
invariant-loop-variable l = l.depths.items ++ depths_in (drop l.variable-index l.variables) l.slots ≡ depths_in l.variables l.slots
