use Rattle.std.proofs.Common.{◌≤◌, ◌-◌, map}
use Rattle.ty_table.specs.TypeAt.{type_at}
use Rattle.ir_tables.specs.Rows.{constructors_at}
use Rattle.mono_close.specs.Closing.{Longer}
use Rattle.mono_needed.specs.Gathering.{AreMarked, Gathers}
use Rattle.mono_needed.proofs.count.count_needed.Given as goal

abbrev pub invariant-loop-next : goal.invariant-loop-next
invariant-loop-next l = record {
  gathers : Gathers (constructors_at l.sources l.constructors) (map (type_at l.fn.closed) l.roots) l.closed l.needed.items l.next;
  marked : AreMarked l.needed.items l.marks.items;
  within : l.next ≤ l.limit;
  longer : Longer l.fn.closed l.closed;
}

abbrev pub decreases-loop-next : goal.decreases-loop-next
decreases-loop-next l = l.limit - l.next
