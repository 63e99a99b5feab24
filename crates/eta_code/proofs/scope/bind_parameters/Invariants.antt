use Rattle.std.proofs.Common.{◌≡◌, drop}
use Rattle.eta_code.specs.Scopes.{with_parameters}
use Rattle.eta_code.proofs.scope.bind_parameters.Given as goal

abbrev pub invariant-loop-i : goal.invariant-loop-i
invariant-loop-i l = with_parameters (drop l.i l.parameters) l.last l.names ≡ with_parameters l.parameters l.last l.fn.names
