use Rattle.std.proofs.Common.{map, take}
use Rattle.sml_tree.specs.TreeOf.{con_bind_of}
use Rattle.datatype_decs.specs.Adding.{AreMore}
use Rattle.datatype_decs.proofs.constructors.add_constructors.Given as goal

abbrev pub invariant-loop-i : goal.invariant-loop-i
invariant-loop-i l = AreMore l.fn.state l.fn.context l.of.name (map con_bind_of (take l.i l.cons)) (take l.i l.row) l.state l.context l.fn.values.items l.values.items
