use Rattle.prog_shapes.proofs.Nested.{last-read, nonempty}
use Rattle.prog_shapes.proofs.types.applied_type.Goals as goal

pub returns : goal.returns
returns c = last-read c.args.function c.args.arguments.now _ _ (nonempty _ c.if-is_empty.ensures)
