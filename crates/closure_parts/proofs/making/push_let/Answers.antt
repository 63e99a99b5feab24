use Rattle.closure_parts.proofs.Putting.{pushed-let}
use Rattle.closure_parts.proofs.making.push_let.Goals as goal

pub returns : goal.returns
returns c = pushed-let c.args.steps.now.items c.push.new.self.items c.args.name c.args.operation c.in_ok-push.ensures.items
