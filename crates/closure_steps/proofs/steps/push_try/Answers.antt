use Rattle.closure_steps.proofs.Pushing.{try-put}
use Rattle.closure_steps.proofs.steps.push_try.Goals as goal

pub returns : goal.returns
returns c = try-put c.args.steps.now.items c.push.new.self.items c.in_ok-attempt.attempt c.args.attempt c.in_ok-push.ensures.items c.in_ok-attempt.ensures
