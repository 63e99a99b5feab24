use Rattle.match_steps.proofs.Heads.{constructor-headed, reference-headed, heading-as}
use Rattle.match_steps.proofs.steps.push_head.Goals as goal

pub returns-in_ok-push_test-in-Constructor-clause-puts : goal.returns-in_ok-push_test-in-Constructor-clause-puts
returns-in_ok-push_test-in-Constructor-clause-puts c =
    let x = c.in_ok-argument-in-Constructor.ensures in
    let p = c.in_ok-push_test-in-Constructor.ensures in
    constructor-headed _ _ _ _ c.args.head c.in-Constructor.constructor c.args.u c.args.t c.args.work.now.next c.args.atom c.in_ok-argument-in-Constructor.argument c.in-Constructor.is x.variable x.ty p.keeps p.puts

pub returns-in_ok-held-in-Reference-clause-puts : goal.returns-in_ok-held-in-Reference-clause-puts
returns-in_ok-held-in-Reference-clause-puts c =
    reference-headed _ _ _ c.args.head c.args.u c.args.t c.args.work.now.next c.args.atom c.in-Reference.is c.in_ok-held-in-Reference.ensures.puts

pub returns-in_ok-argument-in-Exception-clause-puts : goal.returns-in_ok-argument-in-Exception-clause-puts
returns-in_ok-argument-in-Exception-clause-puts c =
    heading-as _ _ _ c.args.head _ c.args.u c.args.t c.args.work.now.next c.args.atom c.in-Exception.is c.in_ok-argument-in-Exception.ensures.puts
