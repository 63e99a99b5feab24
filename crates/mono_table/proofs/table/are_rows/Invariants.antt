use Rattle.std.proofs.Common.{◌≡◌, true}
use Rattle.mono_table.specs.Right.{rows_right}
use Rattle.mono_table.proofs.table.are_rows.Given as goal

abbrev pub invariant-loop-n : goal.invariant-loop-n
invariant-loop-n l = rows_right l.types l.n ≡ true
