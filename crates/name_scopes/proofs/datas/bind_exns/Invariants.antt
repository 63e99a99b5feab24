use Rattle.std.proofs.Common.{◌++◌, map}
use Rattle.sml_tree.specs.TreeOf.{ex_bind_of}
use Rattle.core_rules.specs.Restrictions.{exn_vids}
use Rattle.name_scopes.specs.Entries.{con_entries}
use Rattle.name_scopes.proofs.FromEnd.{Reaches}
use Rattle.name_scopes.proofs.datas.bind_exns.Given as goal

abbrev pub invariant-loop-i : goal.invariant-loop-i
invariant-loop-i l = Reaches (λ bs. con_entries (exn_vids (map ex_bind_of bs)) ++ l.fn.scope) l.binds l.i l.scope

abbrev pub decreases-loop-i : goal.decreases-loop-i
decreases-loop-i l = l.i
