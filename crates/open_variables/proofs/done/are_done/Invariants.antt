use Rattle.ty_table.specs.TypeAt.{types_at}
use Rattle.ty_solve.specs.Said.{said}
use Rattle.ty_solve.specs.Weight.{weights}
use Rattle.open_variables.specs.Open.{is_done_in}
use Rattle.open_variables.proofs.Searching.{Searching}
use Rattle.open_variables.proofs.done.are_done.Given as goal

abbrev pub invariant-loop-next : goal.invariant-loop-next
invariant-loop-next l = Searching l.solver.subst.types (said l.solver.subst) (is_done_in l.solver) l.fn.types.items l.seen.keys l.pending.items

abbrev pub decreases-loop-next : goal.decreases-loop-next
decreases-loop-next l = weights l.solver.subst.acyclic.0 (types_at l.solver.subst.types l.pending.items)
