use Rattle.general_bindings.proofs.Splitting.{SplitTo}
use Rattle.general_bindings.proofs.records.push_split.Given as goal

abbrev pub invariant-loop-i : goal.invariant-loop-i
invariant-loop-i l = SplitTo l.fn.work l.work l.fn.steps.items l.steps.items l.parameters l.record_at l.ty l.spots l.i l.made.items
