use Rattle.general_bindings.proofs.Placing.{general-placed}
use Rattle.general_bindings.proofs.records.push_general.Goals as goal

pub returns-clause-puts : goal.returns-clause-puts
returns-clause-puts c = λ t g stands gives.
    let p = c.in_ok-variable.ensures in
    general-placed _ c.fresh.new.work _ _ _ c.in_ok-body.body c.args.body t g p.keeps p.is c.in_ok-push.ensures.items c.in_ok-body.ensures stands gives
