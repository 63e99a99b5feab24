use Rattle.std.proofs.Common.{length}
use Rattle.ty_table.specs.TypeAt.{types_at, AllBelow}
use Rattle.ty_solve.specs.SlotsOf.{tasks_of}
use Rattle.ty_solve.specs.Said.{said}
use Rattle.ty_solve.specs.Held.{AreHeldTasks}
use Rattle.ty_solve.specs.Weight.{weights}
use Rattle.ty_solve.proofs.Admitting.{Admitting}
use Rattle.ty_solve.proofs.equality.admit_all.Given as goal

abbrev pub invariant-loop-next : goal.invariant-loop-next
invariant-loop-next l = record {
  admitting : Admitting l.s.types (length l.s.slots.items) (said l.s) l.s.acyclic.0 l.ts (tasks_of l.s.types l.fn.tasks.items) (tasks_of l.s.types l.tasks.items) l.seen.keys l.pending.items;
  held : AllBelow (length l.s.types) l.ts → AreHeldTasks (length l.s.types) l.fn.tasks.items → AllBelow (length l.s.types) l.pending.items × AreHeldTasks (length l.s.types) l.tasks.items;
}

abbrev pub decreases-loop-next : goal.decreases-loop-next
decreases-loop-next l = weights l.s.acyclic.0 (types_at l.s.types l.pending.items)
