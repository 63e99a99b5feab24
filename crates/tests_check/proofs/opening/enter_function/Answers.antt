use Rattle.std.proofs.Common.{◌≡◌, length, refl, sym, ◌∙◌, arith}
use Rattle.ir_known.specs.Knows.{marks_of}
use Rattle.tests_check.proofs.Openings.{next-read, not-read, last-taken, last-not-taken}
use Rattle.tests_check.proofs.opening.enter_function.Goals as goal

pub returns-in-None-clause-none : goal.returns-in-None-clause-none
returns-in-None-clause-none c = λ _. not-read c.args.tables.now (marks_of c.args.marks.now) c.args.scope.now c.loop-i.scope c.args.parameters.now c.args.last _ c.args.ty c.loop-i.rest c.loop-i.i
    c.loop-i-test.true c.loop-i.invariant (c.in_ok-found.ensures.none c.in-None.is)

pub loop-i-preserved : goal.loop-i-preserved
loop-i-preserved c = next-read c.args.tables.now (marks_of c.args.marks.now) c.args.scope.now c.loop-i.scope c.enter_parameter.new.scope c.args.parameters.now c.args.last _ c.args.ty c.loop-i.rest
    c.in-Some.given c.loop-i.i c.loop-i-test.true c.loop-i.invariant (c.in_ok-found.ensures.some c.in-Some.given c.in-Some.is)

pub returns-clause-some : goal.returns-clause-some
returns-clause-some c = λ v e.
    let n : c.loop-i.i ≡ length c.args.parameters.now = omega arith in
    last-taken c.args.tables.now (marks_of c.args.marks.now) c.args.scope.now c.loop-i.scope c.enter.new.self c.enter_parameter-2.new.scope c.args.parameters.now c.args.last c.args.ty c.loop-i.rest v c.loop-i.i n c.loop-i.invariant
    c.enter.ensures (c.in_ok-body.ensures.some v e)

pub returns-clause-none : goal.returns-clause-none
returns-clause-none c = λ e.
    let n : c.loop-i.i ≡ length c.args.parameters.now = omega arith in
    last-not-taken c.args.tables.now (marks_of c.args.marks.now) c.args.scope.now c.loop-i.scope c.enter.new.self c.args.parameters.now c.args.last c.args.ty c.loop-i.rest c.loop-i.i n c.loop-i.invariant c.enter.ensures
    (c.in_ok-body.ensures.none e)
