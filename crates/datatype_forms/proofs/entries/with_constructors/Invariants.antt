use Rattle.std.proofs.Common.{◌≡◌, ◌++◌, map, drop}
use Rattle.sml_tree.specs.TreeOf.{data_bind_of}
use Rattle.datatype_forms.specs.Constructed.{ranged}
use Rattle.datatype_forms.proofs.entries.with_constructors.Given as goal

abbrev pub invariant-loop-i : goal.invariant-loop-i
invariant-loop-i l = l.made.items ++ ranged l.next (map data_bind_of (drop l.i l.binds)) (drop l.i l.entries) ≡ ranged l.first (map data_bind_of l.binds) l.entries
