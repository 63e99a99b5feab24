use Rattle.ty_solve.specs.SlotsOf.{seen, entries, tasks_of}
use Rattle.ty_solve.specs.Compared.{Remembers}
use Rattle.ty_solve.specs.Held.{AreHeldTasks}
use Rattle.std.proofs.Common.{length, None}
use Rattle.ty_solve.specs.SlotsOf.{entries, tasks_of}
use Rattle.ty_solve.specs.Tasks.{burdens}
use Rattle.ty_solve.proofs.Coming.{Going}
use Rattle.ty_solve.proofs.step.next_write.Given as goal

abbrev pub invariant-loop-task : goal.invariant-loop-task
invariant-loop-task l = record {
  going : Going (entries l.s.types l.s.slots.items) (tasks_of l.s.types l.fn.tasks.items) (tasks_of l.s.types l.tasks.items);
  remembers : Remembers l.s.types (seen l.s.types l.s.slots.items) None l.compared.keys (tasks_of l.s.types l.tasks.items);
  held : AreHeldTasks (length l.s.types) l.tasks.items;
}

abbrev pub decreases-loop-task : goal.decreases-loop-task
decreases-loop-task l = burdens l.s.acyclic.0 (tasks_of l.s.types l.tasks.items)
