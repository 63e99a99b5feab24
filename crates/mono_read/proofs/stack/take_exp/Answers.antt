use Rattle.mono_bound.specs.Reads.{mono_of}
use Rattle.mono_read.specs.Reads.{open_in}
use Rattle.mono_read.proofs.Given.{if-ok}
use Rattle.mono_read.proofs.Stacked.{exp-top}
use Rattle.mono_read.proofs.stack.take_exp.Goals as goal

pub returns : goal.returns
returns c = if-ok _ _ c.closed.result (λ e h types strings. exp-top types strings _ _ (open_in types strings c.in_ok-taken.taken.steps.items c.in_ok-taken.taken.end) (mono_of types strings e) (c.in_ok-taken.ensures types strings) (h types strings)) c.closed.ensures
