use Rattle.plain_tree.specs.TreeOf as plain
use Rattle.mono_read.specs.Reads.{step_in, open_in}
use Rattle.mono_read.proofs.Given.{if-ok}
use Rattle.mono_read.proofs.Stacked.{stepped-is}
use Rattle.mono_read.proofs.stack.push_step.Goals as goal

pub returns-in-Ok : goal.returns-in-Ok
returns-in-Ok c = if-ok _ _ c.push_onto.result (λ u h types strings. stepped-is types strings _ _ _ (open_in types strings c.in-Ok.taken.steps.items c.in-Ok.taken.end) (plain.put (step_in types strings c.args.step)) (c.in-Ok.ensures types strings) (h types strings)) c.push_onto.ensures
