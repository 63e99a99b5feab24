use Rattle.std.proofs.Common.{get_or, false, ap, ◌∙◌}
use Rattle.mono_needed.proofs.Marking.{mark-more}
use Rattle.mono_needed.proofs.marks.reach.Goals as goal

pub loop-marks-preserved : goal.loop-marks-preserved
loop-marks-preserved c = λ k. ap (λ l. get_or l k false) c.in_ok-push.ensures.items ∙ mark-more c.loop-marks.marks.items k ∙ c.loop-marks.invariant k
