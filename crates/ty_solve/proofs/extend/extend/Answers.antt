use Rattle.ty_solve.specs.SlotsOf.{row_in}
use Rattle.ty_solve.proofs.extend.extend.Goals as goal

pub returns-in-Err-clause-cause : goal.returns-in-Err-clause-cause
returns-in-Err-clause-cause c = c.in-Err.ensures.cause (row_in c.args.s.now.types c.args.row.now)
