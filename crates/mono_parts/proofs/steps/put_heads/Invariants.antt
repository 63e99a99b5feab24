use Rattle.std.proofs.Common.{◌≤◌, length, drop}
use Rattle.mono_parts.proofs.Lists.{HeadsPut}
use Rattle.mono_parts.proofs.steps.put_heads.Given as goal

abbrev pub invariant-loop-left : goal.invariant-loop-left
invariant-loop-left l = record {
  within : l.left ≤ length l.functions;
  put : HeadsPut l.fn.tables l.fn.copier l.copier l.list (drop l.left l.functions);
}

abbrev pub decreases-loop-left : goal.decreases-loop-left
decreases-loop-left l = l.left
