use Rattle.std.proofs.Common.{◌≡◌, ◌++◌, take, map}
use Rattle.capture_scope.specs.declared.scope.Member as code
use Rattle.capture_scope.proofs.scope.see_names.Given as goal

abbrev pub invariant-loop-i : goal.invariant-loop-i
invariant-loop-i l = l.seen.keys ≡ l.fn.seen.keys ++ map (λ (m : code.Member). m.name) (take l.i l.group)
