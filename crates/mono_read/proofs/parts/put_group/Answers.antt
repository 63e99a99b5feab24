use Rattle.std.proofs.Common.{◌∙◌}
use Rattle.mono_read.proofs.Given.{if-ok}
use Rattle.mono_read.proofs.Stacked.{group-put}
use Rattle.mono_read.proofs.parts.put_group.Goals as goal

pub returns : goal.returns
returns c = if-ok _ _ c.push_step.result (λ u h types strings. group-put types strings _ _ _ _ c.in_ok-heads.heads.items c.deref.result.now c.in_ok-functions.functions (c.in_ok-heads.ensures types strings) (c.deref.ensures.value ∙ c.reverse.ensures.items) (c.in_ok-functions.ensures types strings) (h types strings)) c.push_step.ensures
