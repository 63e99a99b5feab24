use Rattle.std.proofs.Common.{map, take}
use Rattle.sml_tree.specs.TreeOf.{data_bind_of}
use Rattle.datatype_decs.specs.Adding.{AreAllMore}
use Rattle.datatype_decs.proofs.constructors.all_constructors.Given as goal

abbrev pub invariant-loop-i : goal.invariant-loop-i
invariant-loop-i l =
    AreAllMore l.fn.state l.fn.context (take l.i l.made.names.items) (map data_bind_of (take l.i l.binds)) (map (λ ks. ks.items) (take l.i l.made.arguments.rows.items)) l.state l.context l.values.items
