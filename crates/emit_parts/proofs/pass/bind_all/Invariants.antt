use Rattle.std.proofs.Common.{◌≡◌, ◌+◌, length, drop}
use Rattle.machine_code.specs.Code.{with_params}
use Rattle.emit_parts.proofs.pass.bind_all.Given as goal

abbrev pub invariant-loop-variable : goal.invariant-loop-variable
invariant-loop-variable l = record {
  slots : with_params (drop l.variable-index l.variables) l.depth l.slots ≡ with_params l.variables l.initial.depth l.initial.slots;
  depth : l.depth + length (drop l.variable-index l.variables) ≡ l.initial.depth + length l.variables;
}
