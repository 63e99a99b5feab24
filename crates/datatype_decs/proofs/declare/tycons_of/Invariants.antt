use Rattle.std.proofs.Common.{◌≡◌, ◌++◌, map, take}
use Rattle.sml_tree.specs.TreeOf.{data_bind_of, type_bind_of}
use Rattle.datatype_decs.proofs.declare.tycons_of.Given as goal

abbrev pub invariant-loop-i : goal.invariant-loop-i
invariant-loop-i l = l.names.items ≡ map (λ b. b.tycon) (map data_bind_of (take l.i l.binds))

abbrev pub invariant-loop-k : goal.invariant-loop-k
invariant-loop-k l = l.names.items ≡ map (λ b. b.tycon) (map data_bind_of l.binds) ++ map (λ b. b.tycon) (map type_bind_of (take l.k l.abbreviations))
