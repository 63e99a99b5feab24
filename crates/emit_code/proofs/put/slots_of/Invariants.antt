use Rattle.std.proofs.Common.{◌≡◌, ◌++◌, drop, map}
use Rattle.emit_rows.specs.of_machine_code.Code.{depths_in, slot}
use Rattle.emit_code.proofs.put.slots_of.Given as goal

abbrev pub invariant-loop-variable : goal.invariant-loop-variable
invariant-loop-variable l = l.all.items ++ map slot (depths_in (drop l.variable-index l.variables) l.slots) ≡ map slot (depths_in l.variables l.slots)
