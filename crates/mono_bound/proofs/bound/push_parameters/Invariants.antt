use Rattle.std.proofs.Common.{◌≡◌, ◌++◌, drop}
use Rattle.mono_bound.specs.Bound.{parameters_bound}
use Rattle.mono_bound.proofs.bound.push_parameters.Given as goal

abbrev pub invariant-loop-i : goal.invariant-loop-i
invariant-loop-i l = l.found.items ++ parameters_bound l.types l.function (drop l.i l.parameters) l.last ≡ l.fn.found.items ++ parameters_bound l.types l.ty l.parameters l.last
