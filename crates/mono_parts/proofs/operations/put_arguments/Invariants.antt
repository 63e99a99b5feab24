use Rattle.std.proofs.Common.{◌≤◌, length, drop}
use Rattle.mono_parts.proofs.Lists.{ArgumentsPut}
use Rattle.mono_parts.proofs.operations.put_arguments.Given as goal

abbrev pub invariant-loop-left : goal.invariant-loop-left
invariant-loop-left l = record {
  within : l.left ≤ length l.arguments;
  put : ArgumentsPut l.fn.copier l.copier (drop l.left l.arguments);
}

abbrev pub decreases-loop-left : goal.decreases-loop-left
decreases-loop-left l = l.left
