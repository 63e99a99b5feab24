use Rattle.std.proofs.Common.{ap, sym, ◌∙◌}
use Rattle.prog_shapes.specs.Shapes.{joined_type}
use Rattle.prog_shapes.proofs.Nested.{last-joined, nonempty}
use Rattle.prog_shapes.proofs.types.chain_type.Goals as goal

pub returns-in-Left : goal.returns-in-Left
returns-in-Left c = last-joined c.args.first c.args.joins.now _ _ (nonempty _ c.if-is_empty.ensures) ∙ ap (λ s. joined_type s c.args.first c.args.joins.now) (sym c.in-Left.is)
