use Rattle.prog_parts.proofs.Truths.{as-decided}
use Rattle.prog_pats.specs.Fits.{is_over}
use Rattle.prog_pats.proofs.records.is_known.Goals as goal

pub returns : goal.returns
returns c = as-decided c.in_ok-known.known (is_over c.args.tables.now c.args.environment.now c.args.ty) c.in_ok-known.ensures
