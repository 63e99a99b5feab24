use Rattle.std.proofs.Common.{◌≤◌}
use Rattle.general_vals.proofs.Closing.{Ending}
use Rattle.general_vals.proofs.close.end_limits.Given as goal

abbrev pub invariant-loop-v : goal.invariant-loop-v
invariant-loop-v l = record {
  reached : l.first ≤ l.v;
  ended : Ending l.fn.limits.items l.limits.items l.level l.first l.v;
}
