use Rattle.final_types.proofs.Reading.{with-new}
use Rattle.final_types.proofs.program.program_of.Goals as goal

pub returns-in-Ok : goal.returns-in-Ok
returns-in-Ok c = with-new c.args.state c.in_ok-tables.field-0 c.in_ok-tables.ensures c.args.body.now c.in-Ok.body c.in-Ok.ensures
