use Rattle.std.proofs.Common.{◌-◌}
use Rattle.record_order.proofs.Halves.{Between}
use Rattle.record_order.proofs.fields.beside.Given as goal

abbrev pub invariant-loop-low : goal.invariant-loop-low
invariant-loop-low l = Between l.label l.labels l.low l.high

abbrev pub decreases-loop-low : goal.decreases-loop-low
decreases-loop-low l = l.high - l.low
