use Rattle.prog_pats.proofs.of_prog_parts.Loops.{asking-starts, asking-more, asking-ends}
use Rattle.prog_leaves.specs.Right.{plain_right}
use Rattle.prog_leaves.proofs.bounds.check_plains.Goals as goal

pub loop-i-init : goal.loop-i-init
loop-i-init c = asking-starts (plain_right c.args.tables.now c.args.environment.now) c.args.binds.now

pub loop-i-preserved : goal.loop-i-preserved
loop-i-preserved c = asking-more (plain_right c.args.tables.now c.args.environment.now) c.args.binds.now c.loop-i.i c.index-binds-i.result c.loop-i.so_far c.in_ok-one.one c.both-so_far.result
    c.loop-i-test.true c.index-binds-i.is c.in_ok-one.ensures c.both-so_far.ensures c.loop-i.invariant

pub returns : goal.returns
returns c = asking-ends (plain_right c.args.tables.now c.args.environment.now) c.args.binds.now c.loop-i.i c.loop-i.so_far c.loop-i-test.false c.loop-i.invariant
