use Rattle.std.proofs.Common.{map, nat_eq, take}
use Rattle.indexmap.specs.IndexMap.{get}
use Rattle.sml_tree.specs.TreeOf.{con_bind_of}
use Rattle.datatype_decs.specs.Adding.{HaveRows}
use Rattle.datatype_decs.proofs.rows.add_rows_of.Given as goal

abbrev pub invariant-loop-i : goal.invariant-loop-i
invariant-loop-i l = HaveRows l.fn.state l.names l.datatype (map con_bind_of (take l.i l.cons)) (take l.i l.row) l.state (get nat_eq l.known)
