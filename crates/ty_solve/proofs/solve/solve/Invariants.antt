use Rattle.ty_table.specs.TypeAt.{type_at}
use Rattle.ty_solve.specs.SlotsOf.{seen, entries, tasks_of}
use Rattle.ty_solve.specs.Compared.{Remembers}
use Rattle.ty_solve.specs.Held.{AreHeldTasks}
use Rattle.std.proofs.Common.{◌≡◌, length, None}
use Rattle.std.proofs.Common.{◌≡◌, length}
use Rattle.ty_table.specs.TypeAt.{type_at}
use Rattle.ty_solve.specs.SlotsOf.{entries, tasks_of}
use Rattle.ty_solve.specs.Changes.{ranks}
use Rattle.ty_solve.specs.Solve.{undo}
use Rattle.ty_solve.proofs.Solving.{Solving}
use Rattle.ty_solve.proofs.solve.solve.Given as goal

abbrev pub invariant-loop-refused : goal.invariant-loop-refused
invariant-loop-refused l = record {
  types : l.s.types ≡ l.fn.s.types;
  same_length : length l.s.slots.items ≡ length l.fn.s.slots.items;
  solving : Solving (entries l.fn.s.types l.fn.s.slots.items) (entries l.fn.s.types l.s.slots.items) (type_at l.fn.s.types l.a) (type_at l.fn.s.types l.b) (tasks_of l.fn.s.types l.tasks.items);
  remembers : Remembers l.s.types (seen l.s.types l.s.slots.items) None l.compared.keys (tasks_of l.s.types l.tasks.items);
  held : AreHeldTasks (length l.s.types) l.tasks.items;
  undone : undo l.trail.items l.s.slots.items ≡ undo l.fn.trail.items l.fn.s.slots.items;
}

abbrev pub decreases-loop-refused : goal.decreases-loop-refused
decreases-loop-refused l = ranks (entries l.s.types l.s.slots.items)
