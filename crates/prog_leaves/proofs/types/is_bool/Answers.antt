use Rattle.ty_table.specs.TypeAt.{type_at}
use Rattle.ir_poly.specs.Types.{of_name, bool_name}
use Rattle.prog_pats.proofs.of_prog_parts.Truths.{as-same}
use Rattle.prog_leaves.specs.Right.{is_bool}
use Rattle.prog_leaves.proofs.types.is_bool.Goals as goal

pub returns : goal.returns
unfolding is_bool
returns c = as-same c.is_named.result (type_at c.args.tables.now.types c.args.ty) (of_name bool_name) c.is_named.ensures
