use Rattle.mono_read.proofs.Given.{if-ok}
use Rattle.mono_read.proofs.Stacked.{arms-top, arms-end}
use Rattle.mono_read.proofs.parts.take_arms.Goals as goal

pub returns-in-Arms : goal.returns-in-Arms
returns-in-Arms c = if-ok _ _ c.close_arm.result (λ arms h types strings f. arms-top types strings _ _ c.in_ok-arms.field-0 arms.items c.in-Arms.arms c.in-Arms.case c.in-Arms.steps c.in-Arms.end f (c.in_ok-arms.ensures types strings) c.in-Arms.is (h types strings)) c.close_arm.ensures

pub returns-in-End : goal.returns-in-End
returns-in-End c = λ types strings f. arms-end types strings _ _ c.in_ok-arms.field-0 c.new.result.items f (c.in_ok-arms.ensures types strings) c.in-End.is c.new.ensures.items
