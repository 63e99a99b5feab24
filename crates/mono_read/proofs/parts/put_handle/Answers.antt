use Rattle.mono_bound.specs.Reads.{mono_of}
use Rattle.mono_read.proofs.Given.{if-ok}
use Rattle.mono_read.proofs.Stacked.{handle-put}
use Rattle.mono_read.proofs.parts.put_handle.Goals as goal

pub returns-in-Ok : goal.returns-in-Ok
returns-in-Ok c = if-ok _ _ c.add_handle.result (λ u h types strings. handle-put types strings _ _ _ (mono_of types strings c.in-Ok.body) (c.in-Ok.ensures types strings) (h types strings)) c.add_handle.ensures
