use Rattle.std.proofs.Common.{ap, ◌∙◌}
use Rattle.ty_table.specs.TypeAt.{type_at}
use Rattle.ir_poly.specs.Types.{of_name, bool_name}
use Rattle.prog_check.specs.Same.{same_type}
use Rattle.prog_tree.specs.Readings.{reading}
use Rattle.prog_pats.proofs.of_prog_parts.Truths.{as-same}
use Rattle.prog_leaves.specs.Right.{is_test}
use Rattle.prog_leaves.proofs.types.is_test.Goals as goal

pub returns : goal.returns
unfolding is_test
returns c = as-same c.is_named.result (type_at c.args.tables.now.types c.type_of.result) (of_name bool_name) c.is_named.ensures
    ∙ ap (λ u. same_type u (of_name bool_name)) (c.type_of.ensures (reading c.args.tables.now))
