use Rattle.std.proofs.Common.{nat_eq}
use Rattle.indexmap.specs.IndexMap.{get}
use Rattle.mono_close.specs.Closing.{standing, AreRight, Longer}
use Rattle.mono_needed.proofs.Arguments.{Arguing}
use Rattle.mono_needed.proofs.Chain.{left_of}
use Rattle.mono_needed.proofs.open.push_arguments.Given as goal

abbrev pub invariant-loop-next : goal.invariant-loop-next
invariant-loop-next l = record {
  arguing : Arguing l.constructors l.sources l.name (standing l.fn.closed l.slots) l.closed l.fn.found.items l.found.items l.next;
  right : AreRight l.sources (standing l.fn.closed l.slots) (get nat_eq l.known) l.closed;
  longer : Longer l.fn.closed l.closed;
}

abbrev pub decreases-loop-next : goal.decreases-loop-next
decreases-loop-next l = left_of l.next
