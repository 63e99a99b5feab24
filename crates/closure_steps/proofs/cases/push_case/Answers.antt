use Rattle.closure_steps.proofs.Pushing.{case-put}
use Rattle.closure_steps.proofs.cases.push_case.Goals as goal

pub returns : goal.returns
returns c = λ types h.
    case-put c.args.steps.now.items c.push.new.self.items c.in_ok-cell.cell c.in_ok-tag.tag _ _ c.args.others c.in_ok-push.ensures.items c.in_ok-cell.ensures (c.in_ok-tag.ensures types h)
