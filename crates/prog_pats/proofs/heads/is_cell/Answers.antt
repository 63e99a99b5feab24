use Rattle.ty_table.specs.TypeAt.{type_at}
use Rattle.ir_poly.specs.Types.{ref_type}
use Rattle.prog_parts.proofs.Truths.{as-same}
use Rattle.prog_pats.proofs.heads.is_cell.Goals as goal

pub returns : goal.returns
returns c = as-same c.is_reference.result (type_at c.args.types.now c.args.ty) (ref_type (type_at c.args.types.now c.args.held)) c.is_reference.ensures
