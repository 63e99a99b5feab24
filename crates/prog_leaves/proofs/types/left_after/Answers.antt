use Rattle.std.proofs.Common.{sym, ap, ◌∙◌}
use Rattle.ty_table.specs.TypeAt.{type_at}
use Rattle.prog_tree.specs.Readings.{reading}
use Rattle.prog_pats.specs.of_prog_parts.Expressions.{join_next}
use Rattle.prog_leaves.proofs.types.left_after.Goals as goal

pub returns-in-Left : goal.returns-in-Left
returns-in-Left c = ap (λ s. join_next c.args.tables.now s (type_at c.args.tables.now.types c.args.left) c.args.join.now) c.in-Left.is

pub returns-in-Right : goal.returns-in-Right
returns-in-Right c = ap (λ s. join_next c.args.tables.now s (type_at c.args.tables.now.types c.args.left) c.args.join.now) c.in-Right.is ∙ sym (c.type_of.ensures (reading c.args.tables.now))
