use Rattle.std.proofs.Common.{take}
use Rattle.use_elab.proofs.Making.{Freshly}
use Rattle.use_elab.proofs.fresh.fresh_types.Given as goal

abbrev pub invariant-loop-mark : goal.invariant-loop-mark
invariant-loop-mark l = Freshly l.fn.state l.state l.limit (take l.mark-index l.marks) l.types.items
