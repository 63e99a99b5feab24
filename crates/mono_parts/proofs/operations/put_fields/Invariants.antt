use Rattle.std.proofs.Common.{◌≤◌, length, drop}
use Rattle.mono_parts.proofs.Lists.{FieldsPut}
use Rattle.mono_parts.proofs.operations.put_fields.Given as goal

abbrev pub invariant-loop-left : goal.invariant-loop-left
invariant-loop-left l = record {
  within : l.left ≤ length l.fields;
  put : FieldsPut l.fn.copier l.copier (drop l.left l.fields);
}

abbrev pub decreases-loop-left : goal.decreases-loop-left
decreases-loop-left l = l.left
