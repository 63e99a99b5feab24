use Rattle.name_scopes.proofs.Declaring.{named_types}
use Rattle.name_scopes.proofs.FromEnd.{Reaches}
use Rattle.name_scopes.proofs.datas.names_of.Given as goal

abbrev pub invariant-loop-i : goal.invariant-loop-i
invariant-loop-i l = Reaches named_types l.types l.i l.names

abbrev pub decreases-loop-i : goal.decreases-loop-i
decreases-loop-i l = l.i
