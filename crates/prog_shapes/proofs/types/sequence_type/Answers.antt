use Rattle.prog_shapes.proofs.Nested.{given}
use Rattle.prog_shapes.proofs.types.sequence_type.Goals as goal

pub returns : goal.returns
returns c = given c.args.before.now c.args.last c.args.ty c.if-is_empty.ensures
