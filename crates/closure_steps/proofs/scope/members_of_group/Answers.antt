use Rattle.closure_steps.proofs.Members.{members-next, members-all, members-told}
use Rattle.closure_steps.proofs.scope.members_of_group.Goals as goal

pub loop-i-preserved : goal.loop-i-preserved
loop-i-preserved c =
    members-next c.args.functions.now c.loop-i.i c.index-functions-i.result c.index-functions-i.result c.deref.result.now c.number_of-number.result c.loop-i.found.items c.push.new.self.items c.loop-i-test.true c.index-functions-i.is
    c.deref.ensures.value c.number_of-number.ensures c.in_ok-push.ensures.items c.loop-i.invariant

pub returns : goal.returns
returns c = λ types strings. members-told types strings c.args.functions.now c.loop-i.found.items (members-all c.args.functions.now c.loop-i.i c.loop-i.found.items c.loop-i-test.false c.loop-i.invariant)
