use Rattle.std.proofs.Common.{◌≡◌, map, take}
use Rattle.sml_tree.specs.TreeOf.{data_bind_of}
use Rattle.core_rules.specs.Elaborated.{names_of}
use Rattle.datatype_forms.proofs.names.marked_names.Given as goal

abbrev pub invariant-loop-i : goal.invariant-loop-i
invariant-loop-i l = l.names.items ≡ names_of l.first (take l.i l.marks) (map data_bind_of (take l.i l.binds))
