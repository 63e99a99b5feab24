use Rattle.general_decs.proofs.Beginning.{begun-is}
use Rattle.general_decs.proofs.begin.begin.Goals as goal

pub returns-clause-begun : goal.returns-clause-begun
returns-clause-begun c =
    let e = c.in_ok-scope_tyvars.ensures in
    let b = c.in_ok-first.ensures in
    begun-is c.args.state.now c.enter_both.new.state c.scope_tyvars.new.state c.args.context.now c.enter_both.new.context c.scope_tyvars.new.context c.args.scoped.now b.enters b.deeper e.grows e.next e.rest
    e.types e.further e.named e.came
