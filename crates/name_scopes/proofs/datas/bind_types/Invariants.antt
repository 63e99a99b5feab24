use Rattle.std.proofs.Common.{◌++◌, map}
use Rattle.sml_tree.specs.TreeOf.{type_bind_of}
use Rattle.name_scopes.specs.Entries.{type_entries}
use Rattle.name_scopes.proofs.FromEnd.{Reaches}
use Rattle.name_scopes.proofs.datas.bind_types.Given as goal

abbrev pub invariant-loop-i : goal.invariant-loop-i
invariant-loop-i l = Reaches (λ bs. type_entries (map (λ b. b.tycon) (map type_bind_of bs)) ++ l.fn.scope) l.binds l.i l.scope

abbrev pub decreases-loop-i : goal.decreases-loop-i
decreases-loop-i l = l.i
