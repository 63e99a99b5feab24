use Rattle.closure_steps.proofs.Pushing.{handle-put}
use Rattle.closure_steps.proofs.steps.push_handle.Goals as goal

pub returns : goal.returns
returns c = handle-put c.args.steps.now.items c.push.new.self.items c.args.name c.args.body c.args.packet c.args.handler c.in_ok-push.ensures.items
