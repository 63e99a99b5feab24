use Rattle.std.proofs.Common.{arith}
use Rattle.flow_types.proofs.Entered.{growing-start, growing-next, grown-long}
use Rattle.flow_types.proofs.kinds.make_place.Goals as goal

pub loop-kinds-init : goal.loop-kinds-init
loop-kinds-init c = growing-start c.args.variable c.args.kinds.now.items

pub loop-kinds-preserved : goal.loop-kinds-preserved
loop-kinds-preserved c =
    growing-next c.args.variable c.args.kinds.now.items c.loop-kinds.kinds.items c.push.new.self.items (let h = c.loop-kinds-test.true in let e = c.len.ensures in omega (arith, h, e)) c.in_ok-push.ensures.items c.loop-kinds.invariant

pub returns-clause-long : goal.returns-clause-long
returns-clause-long c = grown-long c.args.variable c.args.kinds.now.items c.loop-kinds.kinds.items (let h = c.loop-kinds-test.false in let e = c.len.ensures in omega (arith, h, e)) c.loop-kinds.invariant

pub returns-clause-same : goal.returns-clause-same
returns-clause-same c = c.loop-kinds.invariant.same
