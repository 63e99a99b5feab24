use Rattle.std.proofs.Common.{drop, sym, ap, ◌∙◌}
use Rattle.prog_tree.specs.Readings.{reading}
use Rattle.prog_pats.specs.of_prog_parts.Expressions.{right_type}
use Rattle.prog_leaves.proofs.Typing.{right-last}
use Rattle.prog_leaves.proofs.types.right_of.Goals as goal

pub returns-in-Left : goal.returns-in-Left
returns-in-Left c = c.type_of.ensures (reading c.args.tables.now) ∙ ap (λ s. right_type c.args.tables.now s c.args.join.now (drop c.args.next c.args.joins.now)) (sym c.in-Left.is)

pub returns-else-next-joins : goal.returns-else-next-joins
returns-else-next-joins c = c.type_of-else-next-joins.ensures (reading c.args.tables.now) ∙ right-last c.args.tables.now c.args.join.now c.args.joins.now c.args.next c.if-next-joins.false
    ∙ ap (λ s. right_type c.args.tables.now s c.args.join.now (drop c.args.next c.args.joins.now)) (sym c.in-Right.is)
