use Rattle.std.proofs.Common.{ap, ◌∙◌}
use Rattle.ty_table.specs.TypeAt.{type_at}
use Rattle.prog_check.specs.Same.{same_type}
use Rattle.prog_tree.specs.Readings.{reading}
use Rattle.prog_pats.proofs.of_prog_parts.Truths.{as-same}
use Rattle.prog_leaves.specs.Right.{has_type}
use Rattle.prog_leaves.proofs.types.has_type.Goals as goal

pub returns : goal.returns
unfolding has_type
returns c = as-same c.same_type.result (type_at c.args.tables.now.types c.type_of.result) (type_at c.args.tables.now.types c.args.ty) c.same_type.ensures
    ∙ ap (λ u. same_type u (type_at c.args.tables.now.types c.args.ty)) (c.type_of.ensures (reading c.args.tables.now))
