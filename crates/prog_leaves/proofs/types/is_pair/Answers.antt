use Rattle.std.proofs.Common.{◌∷◌, []}
use Rattle.mlc_names.specs.declared.label.Label.TheVariants.{Number}
use Rattle.ty_table.specs.TypeAt.{type_at}
use Rattle.ir_poly.specs.Types.{row_type}
use Rattle.prog_pats.proofs.of_prog_parts.Truths.{as-same}
use Rattle.prog_leaves.proofs.types.is_pair.Goals as goal

pub returns : goal.returns
returns c = as-same c.is_record.result (type_at c.args.tables.now.types c.args.ty)
    (row_type ((Number 1, type_at c.args.tables.now.types c.args.left) ∷ (Number 2, type_at c.args.tables.now.types c.args.right) ∷ [])) c.is_record.ensures
