use Rattle.ty_table.specs.TypeAt.{types_at}
use Rattle.ty_solve.specs.SlotsOf.{seen}
use Rattle.ty_solve.specs.Weight.{weights}
use Rattle.ty_solve.proofs.Reaching.{Reaching}
use Rattle.ty_solve.proofs.walk.reaches.Given as goal

abbrev pub invariant-loop-next : goal.invariant-loop-next
invariant-loop-next l = Reaching l.s.types (seen l.s.types l.s.slots.items) l.v l.fn.types.items l.seen.keys l.pending.items

abbrev pub decreases-loop-next : goal.decreases-loop-next
decreases-loop-next l = weights l.s.acyclic.0 (types_at l.s.types l.pending.items)
