use Rattle.std.proofs.Common.{take}
use Rattle.elab_steps.specs.Rows.{AreBounded}
use Rattle.elab_steps.proofs.rows.bounded_parts.Given as goal

abbrev pub invariant-loop-i : goal.invariant-loop-i
invariant-loop-i l = AreBounded l.fn.state l.limit (take l.i l.fields) l.state l.parts.items
