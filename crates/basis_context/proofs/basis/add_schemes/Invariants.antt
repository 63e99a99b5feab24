use Rattle.std.proofs.Common.{◌≡◌, ◌++◌, take}
use Rattle.basis_context.specs.Basis.{basis_marks, constructors_at, marks_at, row_constructors}
use Rattle.basis_context.proofs.basis.add_schemes.Given as goal

abbrev pub invariant-loop-i : goal.invariant-loop-i
invariant-loop-i l =
    (marks_at l.schemes.items ≡ marks_at l.fn.schemes.items ++ basis_marks (take l.i l.added))
    × (constructors_at l.schemes.items ≡ constructors_at l.fn.schemes.items ++ row_constructors (take l.i l.rows))
