use Rattle.std.proofs.Common.{◌≡◌, length, arith}
use Rattle.mono_check.proofs.Openings.{within-first, next-read, not-read, last-taken}
use Rattle.mono_check.proofs.opening.enter_function.Goals as goal

pub loop-i-init : goal.loop-i-init
loop-i-init c = within-first c.args.tables.now c.args.scope.now c.args.parameters.now c.args.last c.args.ty

pub returns-in-None : goal.returns-in-None
returns-in-None c = not-read c.args.tables.now c.args.scope.now c.loop-i.scope c.args.parameters.now c.args.last c.args.ty c.loop-i.rest c.loop-i.i c.loop-i.invariant c.enter_parameter.new.scope _ c.in_ok-found.found
    c.loop-i-test.true c.in_ok-found.ensures.found c.in-None.is

pub loop-i-preserved : goal.loop-i-preserved
loop-i-preserved c = next-read c.args.tables.now c.args.scope.now c.loop-i.scope c.args.parameters.now c.args.last c.args.ty c.loop-i.rest c.loop-i.i c.loop-i.invariant c.enter_parameter.new.scope _ c.in_ok-found.found
    c.in-Some.given c.loop-i-test.true c.in_ok-found.ensures.found c.in-Some.is (c.in_ok-found.ensures.bound c.in-Some.given c.in-Some.is)

pub returns : goal.returns
returns c =
    let n : c.loop-i.i ≡ length c.args.parameters.now = omega arith in
    last-taken c.args.tables.now c.args.scope.now c.loop-i.scope c.args.parameters.now c.args.last c.args.ty c.loop-i.rest c.loop-i.i c.loop-i.invariant c.enter.new.self c.enter_parameter-2.new.scope c.in_ok-body.body n c.enter.ensures
    c.in_ok-body.ensures.found c.in_ok-body.ensures.bound
