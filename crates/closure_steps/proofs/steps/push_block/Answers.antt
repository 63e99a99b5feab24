use Rattle.closure_steps.proofs.Pushing.{block-put}
use Rattle.closure_steps.proofs.steps.push_block.Goals as goal

pub returns : goal.returns
returns c = block-put c.args.steps.now.items c.push.new.self.items c.args.name c.args.body c.in_ok-push.ensures.items
