use Rattle.std.proofs.Common.{◌≡◌, take}
use Rattle.basis_context.specs.Basis.{listed_rows}
use Rattle.basis_context.proofs.basis.listed.Given as goal

abbrev pub invariant-loop-i : goal.invariant-loop-i
invariant-loop-i l = l.entries.items ≡ listed_rows (take l.i l.rows) l.first
