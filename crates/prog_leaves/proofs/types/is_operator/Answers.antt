use Rattle.std.proofs.Common.{ap, ◌∙◌}
use Rattle.ty_table.specs.TypeAt.{type_at}
use Rattle.ir_poly.specs.Types.{function_type}
use Rattle.prog_check.specs.Same.{same_type}
use Rattle.prog_tree.specs.Readings.{reading}
use Rattle.prog_pats.proofs.of_prog_parts.Truths.{as-same}
use Rattle.prog_leaves.proofs.types.is_operator.Goals as goal

pub returns : goal.returns
returns c = as-same c.is_function.result (type_at c.args.tables.now.types c.type_of.result)
    (function_type (type_at c.args.tables.now.types c.args.pair) (type_at c.args.tables.now.types c.args.ty)) c.is_function.ensures
    ∙ ap (λ u. same_type u (function_type (type_at c.args.tables.now.types c.args.pair) (type_at c.args.tables.now.types c.args.ty))) (c.type_of.ensures (reading c.args.tables.now))
