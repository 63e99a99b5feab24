use Rattle.std.proofs.Common.{◌≡◌, ◌++◌, reverse, take}
use Rattle.name_scopes.proofs.scope.Scope.bind_all.Given as goal

abbrev pub invariant-loop-i : goal.invariant-loop-i
invariant-loop-i l = l.self ≡ reverse (take l.i l.bounds) ++ l.fn.self
