use Rattle.mono_read.proofs.Given.{if-ok}
use Rattle.mono_read.proofs.Stacked.{operation-bound}
use Rattle.mono_read.proofs.stack.push_operation.Goals as goal

pub returns-in-Ok : goal.returns-in-Ok
returns-in-Ok c = if-ok _ _ c.push_step.result (λ u h types strings. operation-bound types strings _ _ _ c.in-Ok.binding c.args.operation (c.in-Ok.ensures types strings) (h types strings)) c.push_step.ensures
