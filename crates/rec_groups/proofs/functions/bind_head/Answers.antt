use Rattle.std.proofs.Common.{refl}
use Rattle.rec_groups.proofs.Adding.{bind-begins, bind-ends, bind-goes}
use Rattle.rec_groups.proofs.functions.bind_head.Goals as goal

pub loop-i-init : goal.loop-i-init
loop-i-init c = bind-begins c.args.variables.now _ _ c.args.bound.now.items c.args.flags.now.items refl c.new-numbers.ensures.items

pub loop-i-preserved : goal.loop-i-preserved
loop-i-preserved c =
    bind-goes c.args.variables.now c.loop-i.i c.index-variables-i.result c.loop-i.numbers.items _ c.args.bound.now.items c.loop-i.bound.items _ c.args.flags.now.items c.loop-i.flags.items _
    c.loop-i.invariant c.loop-i-test.true c.index-variables-i.is c.in_ok-push.ensures.items c.in_ok-push-2.ensures.items c.in_ok-push-3.ensures.items

pub returns-clause-numbers : goal.returns-clause-numbers
returns-clause-numbers c =
    (bind-ends c.args.variables.now c.loop-i.i c.loop-i.numbers.items c.args.bound.now.items c.loop-i.bound.items c.args.flags.now.items c.loop-i.flags.items c.loop-i.invariant
    c.loop-i-test.false).numbers

pub returns-clause-bound : goal.returns-clause-bound
returns-clause-bound c =
    (bind-ends c.args.variables.now c.loop-i.i c.loop-i.numbers.items c.args.bound.now.items c.loop-i.bound.items c.args.flags.now.items c.loop-i.flags.items c.loop-i.invariant
    c.loop-i-test.false).bound

pub returns-clause-flags : goal.returns-clause-flags
returns-clause-flags c =
    (bind-ends c.args.variables.now c.loop-i.i c.loop-i.numbers.items c.args.bound.now.items c.loop-i.bound.items c.args.flags.now.items c.loop-i.flags.items c.loop-i.invariant
    c.loop-i-test.false).flags
