use Rattle.match_steps.proofs.Pushed.{test-pushed}
use Rattle.match_steps.proofs.steps.push_test.Goals as goal

pub returns-clause-puts : goal.returns-clause-puts
returns-clause-puts c = test-pushed _ _ _ c.args.t c.args.atom c.in_ok-ty.ty c.args.case c.new.result c.new.ensures.items c.in_ok-push.ensures.items c.in_ok-ty.ensures.is
