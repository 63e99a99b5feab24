use Rattle.std.proofs.Common.{List}
use Rattle.sml_tree.specs.BareTree.{TypeBind}
use Rattle.restrictions.specs.Written.{AreRead, data_places}
use Rattle.restrictions.proofs.Standing.{Comes}
use Rattle.restrictions.proofs.datas.of_datas.Given as goal

abbrev pub invariant-loop-i : goal.invariant-loop-i
invariant-loop-i l = (bs : List TypeBind) → AreRead bs l.within → Comes (data_places bs) l.datas l.i l.fn.found.items l.found.items
