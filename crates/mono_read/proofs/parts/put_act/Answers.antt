use Rattle.mono_read.proofs.Given.{if-ok}
use Rattle.mono_read.proofs.Stacked.{leaf-put}
use Rattle.mono_read.proofs.parts.put_act.Goals as goal

pub returns-in-Some : goal.returns-in-Some
returns-in-Some c = if-ok _ _ c.push_operation.result (λ u h types strings. leaf-put types strings _ _ c.args.act.now c.in-Some.operation (c.in-Some.ensures types strings) (h types strings)) c.push_operation.ensures
