use Rattle.std.proofs.Common.{map}
use Rattle.datatype_equality.proofs.Falls.{Going, work}
use Rattle.datatype_equality.proofs.fall.fall.Given as goal

abbrev pub invariant-loop-v : goal.invariant-loop-v
invariant-loop-v l = Going (map (λ r. r.items) l.fn.rests.items) l.fn.start.items l.marks.items (map (λ r. r.items) l.rests.items) l.pending.items

abbrev pub decreases-loop-v : goal.decreases-loop-v
decreases-loop-v l = work (map (λ r. r.items) l.rests.items) l.pending.items
