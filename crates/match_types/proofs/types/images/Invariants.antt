use Rattle.std.proofs.Common.{◌≡◌}
use Rattle.ir_known.specs.Knows.{marks_of}
use Rattle.match_types.specs.Views.{Keeps}
use Rattle.match_types.proofs.Standing.{Images}
use Rattle.match_types.proofs.types.images.Given as goal

abbrev pub invariant-loop-v : goal.invariant-loop-v
invariant-loop-v l = record {
  images : Images l.work.tables.types (marks_of l.fn.work.scope) l.made.items l.v;
  next : l.work.next ≡ l.fn.work.next;
  keeps : Keeps l.fn.work l.work;
}
