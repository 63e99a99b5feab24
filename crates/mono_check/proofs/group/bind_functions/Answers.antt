use Rattle.std.proofs.Common.{◌-◌, arith}
use Rattle.mono_check.proofs.Lists.{before}
use Rattle.mono_check.proofs.Groups.{bound-next, bound-stops}
use Rattle.mono_check.proofs.group.bind_functions.Goals as goal

pub returns-then-not-new-clause-new : goal.returns-then-not-new-clause-new
returns-then-not-new-clause-new c = λ t.
    let w = c.loop-left.invariant.within in
    let p = c.loop-left-test.true in
    bound-stops c.args.scope.now c.loop-left.scope c.args.functions.now (c.loop-left.left - 1) c.loop-left.left c.index-functions-left.result c.in_ok-new.new (before c.loop-left.left p) (omega arith) c.index-functions-left.is c.loop-left.invariant c.in_ok-new.ensures.new c.if-not-new.true t

pub loop-left-preserved : goal.loop-left-preserved
loop-left-preserved c =
    let w = c.loop-left.invariant.within in
    let p = c.loop-left-test.true in
    bound-next c.args.scope.now c.loop-left.scope c.bring.new.scope c.args.functions.now (c.loop-left.left - 1) c.loop-left.left c.index-functions-left.result c.in_ok-new.new (before c.loop-left.left p) (omega arith) c.index-functions-left.is c.loop-left.invariant c.in_ok-new.ensures.new c.if-not-new.false
    (c.in_ok-new.ensures.bound c.if-not-new.false)
