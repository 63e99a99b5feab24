use Rattle.std.proofs.Common.{nat_eq}
use Rattle.indexmap.specs.IndexMap.{get}
use Rattle.ty_solve.specs.SlotsOf.{seen}
use Rattle.ty_solve.specs.Sizes.{effort}
use Rattle.ty_solve.proofs.Counting.{Sizing}
use Rattle.ty_solve.proofs.size.is_small.Given as goal

abbrev pub invariant-loop-task : goal.invariant-loop-task
invariant-loop-task l = Sizing l.s.types (seen l.s.types l.s.slots.items) l.t (get nat_eq l.sizes) l.tasks.items l.count

abbrev pub decreases-loop-task : goal.decreases-loop-task
decreases-loop-task l = effort l.s.acyclic.0 l.s.types l.tasks.items
