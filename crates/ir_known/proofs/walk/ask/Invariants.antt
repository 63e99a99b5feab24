use Rattle.ir_tables.specs.of_ty_core.Types.{nodes}
use Rattle.ir_tables.specs.of_ty_table.TypeAt.{type_at}
use Rattle.ir_known.specs.Knows.{marks_of}
use Rattle.ir_known.specs.Asked.{Asked, total}
use Rattle.ir_known.proofs.Walks.{Walked}
use Rattle.ir_known.proofs.walk.ask.Given as goal

abbrev pub invariant-loop-next : goal.invariant-loop-next
invariant-loop-next l = Walked (λ k. Asked l.question (marks_of l.scope) (type_at l.types k)) (λ k. nodes (type_at l.types k)) l.t l.seen.keys l.pending.items

abbrev pub decreases-loop-next : goal.decreases-loop-next
decreases-loop-next l = total (λ k. nodes (type_at l.types k)) l.pending.items
