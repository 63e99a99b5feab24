use Rattle.std.proofs.Common.{◌≤◌, length, drop}
use Rattle.mono_parts.proofs.Lists.{ParametersLeft}
use Rattle.mono_parts.proofs.steps.leave_parameters.Given as goal

abbrev pub invariant-loop-left : goal.invariant-loop-left
invariant-loop-left l = record {
  within : l.left ≤ length l.parameters;
  put : ParametersLeft l.fn.tables l.fn.copier l.copier (drop l.left l.parameters);
}

abbrev pub decreases-loop-left : goal.decreases-loop-left
decreases-loop-left l = l.left
