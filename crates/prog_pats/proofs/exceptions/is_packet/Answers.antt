use Rattle.ty_table.specs.TypeAt.{type_at}
use Rattle.ir_poly.specs.TestsChecked.{exn_type}
use Rattle.prog_parts.proofs.Truths.{as-same}
use Rattle.prog_pats.proofs.exceptions.is_packet.Goals as goal

pub returns : goal.returns
returns c = as-same c.is_named.result (type_at c.args.types.now c.args.ty) exn_type c.is_named.ensures
