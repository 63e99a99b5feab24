use Rattle.mono_close.proofs.Tables.{slot-found}
use Rattle.mono_close.proofs.close.slot.Goals as goal

pub returns-in-Some-clause-is : goal.returns-in-Some-clause-is
returns-in-Some-clause-is c = slot-found c.args.closed.now c.args.slots.now c.args.v c.in-Some.n c.requires c.in-Some.ensures
