use Rattle.std.proofs.Common.{◌++◌, map}
use Rattle.name_scopes.specs.Entries.{con_entries}
use Rattle.name_scopes.proofs.FromEnd.{Reaches}
use Rattle.name_scopes.proofs.datas.bind_cons.Given as goal

abbrev pub invariant-loop-i : goal.invariant-loop-i
invariant-loop-i l = Reaches (λ cs. con_entries (map (λ c. c.vid) cs) ++ l.fn.scope) l.cons l.i l.scope

abbrev pub decreases-loop-i : goal.decreases-loop-i
decreases-loop-i l = l.i
