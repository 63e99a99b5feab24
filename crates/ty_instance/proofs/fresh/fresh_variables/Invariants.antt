use Rattle.std.proofs.Common.{take}
use Rattle.ty_instance.proofs.Renaming.{Made}
use Rattle.ty_instance.proofs.fresh.fresh_variables.Given as goal

abbrev pub invariant-loop-mark : goal.invariant-loop-mark
invariant-loop-mark l = Made l.fn.solver.subst.types l.solver.subst.types l.fn.solver.subst.slots.items l.solver.subst.slots.items l.fn.solver.limits.items l.solver.limits.items l.limit (take l.mark-index l.marks) l.variables.items
