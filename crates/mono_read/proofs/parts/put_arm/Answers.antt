use Rattle.mono_read.specs.Reads.{open_in}
use Rattle.mono_read.proofs.Given.{if-ok}
use Rattle.mono_read.proofs.Stacked.{arm-put}
use Rattle.mono_read.proofs.parts.put_arm.Goals as goal

pub returns-in-Ok : goal.returns-in-Ok
returns-in-Ok c = if-ok _ _ c.add_arm.result (λ u h types strings. arm-put types strings _ _ _ c.args.case (open_in types strings c.in-Ok.taken.steps.items c.in-Ok.taken.end) (c.in-Ok.ensures types strings) (h types strings)) c.add_arm.ensures
