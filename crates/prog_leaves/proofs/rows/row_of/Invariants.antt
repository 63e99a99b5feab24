use Rattle.prog_leaves.proofs.Typing.{Gathering}
use Rattle.prog_leaves.proofs.rows.row_of.Given as goal

abbrev pub invariant-loop-i : goal.invariant-loop-i
invariant-loop-i l = Gathering l.tables l.fields l.row.items l.i
