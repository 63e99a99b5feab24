use Rattle.mono_read.proofs.Given.{if-ok}
use Rattle.mono_read.proofs.Stacked.{switch-arms, switch-empty}
use Rattle.mono_read.proofs.parts.put_switch.Goals as goal

pub returns-in-Arms : goal.returns-in-Arms
returns-in-Arms c = if-ok _ _ c.push_test.result (λ u h types strings. switch-arms types strings _ _ _ c.in_ok-arms.field-0 c.args.atom c.args.ty c.in-Arms.arms c.in-Arms.case c.in-Arms.steps c.in-Arms.end (c.in_ok-arms.ensures types strings) c.in-Arms.is (h types strings)) c.push_test.ensures

pub returns-in-End : goal.returns-in-End
returns-in-End c = if-ok _ _ c.push_empty.result (λ u h types strings. switch-empty types strings _ _ _ c.in_ok-arms.field-0 c.args.atom c.args.ty (c.in_ok-arms.ensures types strings) c.in-End.is (h types strings)) c.push_empty.ensures
