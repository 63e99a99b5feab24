use Rattle.match_steps.proofs.Pushed.{let-pushed}
use Rattle.exp_steps.proofs.operations.push_operation.Goals as goal

pub returns-clause-puts : goal.returns-clause-puts
returns-clause-puts c = λ g reads.
    let b = c.in_ok-binding.ensures in
    let-pushed _ _ _ c.args.work.now.next c.args.t c.in_ok-binding.binding c.args.operation g b.binds c.in_ok-push.ensures.items reads
