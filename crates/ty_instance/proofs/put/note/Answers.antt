use Rattle.ty_instance.proofs.PuttingFor.{noted, kept}
use Rattle.std.proofs.Common.{sym}
use Rattle.ty_instance.proofs.put.note.Goals as goal

pub returns-in-Some : goal.returns-in-Some
returns-in-Some c = kept c.args.v c.args.image _ _ (sym c.in-Some.ensures.value)

pub returns-in_ok-insert-in-None : goal.returns-in_ok-insert-in-None
returns-in_ok-insert-in-None c = noted c.args.v c.args.image _ _ (sym c.in-None.ensures.value) c.in_ok-insert-in-None.ensures.updates.0
