use Rattle.std.proofs.Common.{suc, ◌-◌, length}
use Rattle.flow_types.proofs.Entered.{Growing}
use Rattle.flow_types.proofs.kinds.make_place.Given as goal

abbrev pub invariant-loop-kinds : goal.invariant-loop-kinds
invariant-loop-kinds l = Growing l.variable l.fn.kinds.items l.kinds.items

abbrev pub decreases-loop-kinds : goal.decreases-loop-kinds
decreases-loop-kinds l = suc l.variable - length l.kinds.items
