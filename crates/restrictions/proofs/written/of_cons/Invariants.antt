use Rattle.std.proofs.Common.{List}
use Rattle.sml_tree.specs.BareTree.{TypeBind}
use Rattle.restrictions.specs.Written.{AreRead, written_con}
use Rattle.restrictions.proofs.Abbreviated.{Noted}
use Rattle.restrictions.proofs.written.of_cons.Given as goal

abbrev pub invariant-loop-i : goal.invariant-loop-i
invariant-loop-i l = (bs : List TypeBind) → AreRead bs l.within → Noted (written_con bs) l.cons l.i l.fn.marks.items l.marks.items
