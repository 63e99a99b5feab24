use Rattle.std.proofs.Common.{length, map, take}
use Rattle.ty_table.specs.TypeAt.{type_at, AllBelow}
use Rattle.ty_solve.specs.SlotsOf.{tasks_of}
use Rattle.ty_solve.specs.Held.{AreHeldTasks}
use Rattle.ty_solve.specs.Fields.{OthersAdmit}
use Rattle.ty_solve.proofs.Lists.{all}
use Rattle.ty_solve.proofs.row.admit_others.Given as goal

abbrev pub invariant-loop-i : goal.invariant-loop-i
invariant-loop-i l = record {
  admit : OthersAdmit l.equality (tasks_of l.table l.fn.tasks.items) (tasks_of l.table l.tasks.items) (take l.i l.labels) (all (take l.i (map (type_at l.table) l.types))) l.known;
  held : AllBelow (length l.table) l.types → AreHeldTasks (length l.table) l.fn.tasks.items → AreHeldTasks (length l.table) l.tasks.items;
}
