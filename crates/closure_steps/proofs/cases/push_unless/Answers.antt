use Rattle.closure_steps.proofs.Pushing.{unless-put}
use Rattle.closure_steps.proofs.cases.push_unless.Goals as goal

pub returns : goal.returns
returns c = λ types strings n F T h.
    unless-put c.args.steps.now.items c.push.new.self.items c.test.result c.in_ok-operands.operands c.in_ok-other.other _ _ c.args.other c.in_ok-push.ensures.items (c.test.ensures types strings n F T h) c.in_ok-operands.ensures c.in_ok-other.ensures
