use Rattle.std.proofs.Common.{◌≡◌, true, take}
use Rattle.ir_known.specs.of_ir_tables.Rows.{constructors_at}
use Rattle.prog_check.specs.Program.{check_table}
use Rattle.ir_uses.proofs.table.are_constructors.Given as goal

abbrev pub invariant-loop-i : goal.invariant-loop-i
invariant-loop-i l = check_table (constructors_at l.types (take l.i l.rows)) ≡ true
