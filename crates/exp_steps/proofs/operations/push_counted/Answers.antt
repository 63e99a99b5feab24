use Rattle.exp_steps.proofs.Counting.{count-pushed}
use Rattle.exp_steps.proofs.operations.push_counted.Goals as goal

pub returns : goal.returns
returns c = λ w. count-pushed w _ _ c.args.count c.in_ok-push.ensures.items
