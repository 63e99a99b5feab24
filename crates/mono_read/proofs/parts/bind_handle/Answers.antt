use Rattle.mono_read.proofs.Given.{if-ok, ok-at}
use Rattle.mono_read.proofs.Stacked.{handle-bound}
use Rattle.mono_read.proofs.parts.bind_handle.Goals as goal

pub returns-in-Ok : goal.returns-in-Ok
returns-in-Ok c = if-ok _ _ c.push_step.result (λ u h types strings. handle-bound types strings _ _ _ c.in_ok-binding.binding c.args.body c.args.handler c.args.packet c.in-Ok.body c.in-Ok.handler (ok-at _ _ _ c.in-Ok.ensures.first c.boxed.ensures) (ok-at _ _ _ c.in-Ok.ensures.second c.boxed-2.ensures) (c.in_ok-binding.ensures types strings) (h types strings)) c.push_step.ensures
