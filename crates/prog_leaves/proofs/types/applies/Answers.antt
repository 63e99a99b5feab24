use Rattle.std.proofs.Common.{ap, ◌∙◌}
use Rattle.ty_table.specs.TypeAt.{type_at}
use Rattle.ir_poly.specs.Types.{function_type}
use Rattle.prog_check.specs.Same.{same_type}
use Rattle.prog_tree.specs.Readings.{reading}
use Rattle.prog_pats.proofs.of_prog_parts.Truths.{as-same}
use Rattle.prog_leaves.specs.Right.{applies}
use Rattle.prog_leaves.proofs.types.applies.Goals as goal

pub returns : goal.returns
unfolding applies
returns c = as-same c.is_function.result (type_at c.args.tables.now.types c.args.of)
    (function_type (type_at c.args.tables.now.types c.type_of.result) (type_at c.args.tables.now.types c.args.argument.now.0)) c.is_function.ensures
    ∙ ap (λ u. same_type (type_at c.args.tables.now.types c.args.of) (function_type u (type_at c.args.tables.now.types c.args.argument.now.0))) (c.type_of.ensures (reading c.args.tables.now))
