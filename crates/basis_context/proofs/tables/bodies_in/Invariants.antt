use Rattle.std.proofs.Common.{take}
use Rattle.basis_context.specs.Basis.{type_list}
use Rattle.basis_context.proofs.Making.{Made}
use Rattle.basis_context.proofs.tables.bodies_in.Given as goal

abbrev pub invariant-loop-i : goal.invariant-loop-i
invariant-loop-i l = Made l.fn.types l.types (take l.i type_list) l.made.items
