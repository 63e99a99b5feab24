use Rattle.std.proofs.Common.{◌≡◌, ◌++◌, take}
use Rattle.capture_scope.proofs.scope.see_all.Given as goal

abbrev pub invariant-loop-i : goal.invariant-loop-i
invariant-loop-i l = l.seen.keys ≡ l.fn.seen.keys ++ take l.i l.variables
