use Rattle.std.proofs.Common.{take}
use Rattle.std.specs.Prelude.{sum_by}
use Rattle.prog_binders.specs.Adding.{Adds, parameter_times}
use Rattle.prog_binders.proofs.exps.push_parameters.Given as goal

abbrev pub invariant-loop-i : goal.invariant-loop-i
invariant-loop-i l = Adds l.fn.found.items l.found.items (λ R h. sum_by (parameter_times h) (take l.i l.parameters))
