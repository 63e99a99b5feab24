use Rattle.prog_leaves.proofs.Typing.{taking-starts, taking-more, taking-stops, taking-ends}
use Rattle.prog_leaves.proofs.functions.after.Goals as goal

pub loop-i-init : goal.loop-i-init
loop-i-init c = taking-starts c.args.types.now c.args.parameters.now c.args.ty

pub loop-i-preserved : goal.loop-i-preserved
loop-i-preserved c = taking-more c.args.types.now c.args.parameters.now c.args.ty c.loop-i.now c.in-Some.next c.loop-i.i _ c.loop-i-test.true c.in-Some.ensures c.loop-i.invariant

pub returns-in-None : goal.returns-in-None
returns-in-None c = taking-stops c.args.types.now c.args.parameters.now c.args.ty c.loop-i.now c.loop-i.i _ c.loop-i-test.true c.in-None.ensures c.loop-i.invariant

pub returns : goal.returns
returns c = taking-ends c.args.types.now c.args.parameters.now c.args.ty c.loop-i.now c.loop-i.i c.loop-i-test.false c.loop-i.invariant
