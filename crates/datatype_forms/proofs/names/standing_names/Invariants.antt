use Rattle.std.proofs.Common.{map, take}
use Rattle.sml_tree.specs.TreeOf.{data_bind_of}
use Rattle.datatype_forms.specs.Arguments.{AreStanding}
use Rattle.datatype_forms.proofs.names.standing_names.Given as goal

abbrev pub invariant-loop-i : goal.invariant-loop-i
invariant-loop-i l = AreStanding l.names.items (map data_bind_of (take l.i l.binds))
