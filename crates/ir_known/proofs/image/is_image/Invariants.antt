use Rattle.ir_tables.specs.of_ty_core.Types.{nodes}
use Rattle.ir_tables.specs.of_ty_table.TypeAt.{type_at}
use Rattle.ir_known.specs.Asked.{total}
use Rattle.ir_known.specs.Images.{IsImage, image_of}
use Rattle.ir_known.proofs.Walks.{Walked}
use Rattle.ir_known.proofs.image.is_image.Given as goal

abbrev pub invariant-loop-next : goal.invariant-loop-next
invariant-loop-next l = Walked (IsImage l.types (image_of l.types l.images l.rest)) (λ p. nodes (type_at l.types p.0)) (l.body, l.t) l.seen.keys l.pending.items

abbrev pub decreases-loop-next : goal.decreases-loop-next
decreases-loop-next l = total (λ p. nodes (type_at l.types p.0)) l.pending.items
