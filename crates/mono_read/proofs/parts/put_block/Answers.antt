use Rattle.mono_bound.specs.Reads.{mono_of}
use Rattle.mono_read.proofs.Given.{if-ok}
use Rattle.mono_read.proofs.Stacked.{block-put}
use Rattle.mono_read.proofs.parts.put_block.Goals as goal

pub returns-in-Ok : goal.returns-in-Ok
returns-in-Ok c = if-ok _ _ c.bind_block.result (λ u h types strings. block-put types strings _ _ _ (mono_of types strings c.in-Ok.body) (c.in-Ok.ensures types strings) (h types strings)) c.bind_block.ensures
