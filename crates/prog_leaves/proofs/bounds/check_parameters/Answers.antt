use Rattle.prog_leaves.proofs.Going.{entering-starts, entering-more, entering-right, entering-adds}
use Rattle.prog_leaves.proofs.bounds.check_parameters.Goals as goal

pub loop-i-init : goal.loop-i-init
loop-i-init c = entering-starts c.args.tables.now c.args.parameters.now c.args.environment.now

pub loop-i-preserved : goal.loop-i-preserved
loop-i-preserved c = entering-more c.args.tables.now c.args.parameters.now c.args.environment.now c.loop-i.i _ c.loop-i.environment c.check_parameter.new.environment c.loop-i.so_far c.in_ok-one.one
    c.both-so_far.result c.loop-i-test.true c.in_ok-one.ensures.right c.in_ok-one.ensures.adds c.both-so_far.ensures c.loop-i.invariant

pub returns-clause-right : goal.returns-clause-right
returns-clause-right c = entering-right c.args.tables.now c.args.parameters.now c.args.environment.now c.loop-i.i c.loop-i.environment c.loop-i.so_far c.loop-i-test.false c.loop-i.invariant

pub returns-clause-adds : goal.returns-clause-adds
returns-clause-adds c = entering-adds c.args.tables.now c.args.parameters.now c.args.environment.now c.loop-i.i c.loop-i.environment c.loop-i.so_far c.loop-i-test.false c.loop-i.invariant
