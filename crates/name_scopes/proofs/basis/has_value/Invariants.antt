use Rattle.name_scopes.proofs.Initially.{FoundOrBehind}
use Rattle.name_scopes.proofs.basis.has_value.Given as goal

abbrev pub invariant-loop-i : goal.invariant-loop-i
invariant-loop-i l = FoundOrBehind l.rows l.i l.vid l.found
