use Rattle.prog_leaves.proofs.Typing.{last-none, last-some}
use Rattle.std.proofs.Common.{◌∙◌}
use Rattle.prog_leaves.proofs.types.is_last.Goals as goal

pub returns-then-is_empty : goal.returns-then-is_empty
returns-then-is_empty c = last-none c.args.tables.now c.args.before.now c.args.last.now c.args.ty c.is_empty.result c.is_empty.ensures c.if-is_empty.true

pub returns : goal.returns
returns c = c.has_type.ensures ∙ last-some c.args.tables.now c.args.before.now c.args.last.now c.args.ty c.is_empty.result c.is_empty.ensures c.if-is_empty.false
