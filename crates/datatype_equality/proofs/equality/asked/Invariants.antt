use Rattle.std.proofs.Common.{take}
use Rattle.datatype_equality.specs.Holding.{Holds, total}
use Rattle.datatype_equality.proofs.equality.asked.Given as goal

abbrev pub invariant-loop-argument : goal.invariant-loop-argument
invariant-loop-argument l = Holds l.fn.types l.fn.first l.fn.count l.fn.arguments l.graph (take l.argument-index l.fn.arguments) l.pending.items

abbrev pub invariant-loop-k : goal.invariant-loop-k
invariant-loop-k l = Holds l.fn.types l.fn.first l.fn.count l.fn.arguments l.graph l.fn.arguments l.pending.items

abbrev pub decreases-loop-k : goal.decreases-loop-k
decreases-loop-k l = total l.fn.types l.pending.items
