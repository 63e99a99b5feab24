use Rattle.std.proofs.Common.{◌≡◌, ◌++◌, drop}
use Rattle.first_tables.specs.TablesOf.{callee_of}
use Rattle.emit_rows.specs.of_machine_code.Code.{args_of, depths_in}
use Rattle.emit_code.proofs.moves.arguments.Given as goal

abbrev pub invariant-loop-operand : goal.invariant-loop-operand
invariant-loop-operand l = l.depths.items ++ depths_in (drop l.operand-index l.operands) l.slots ≡ args_of (callee_of l.fn.callee) l.slots l.operands
