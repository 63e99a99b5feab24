use Rattle.std.proofs.Common.{◌++◌, ◌-◌, subst, arith}
use Rattle.ir_tables.specs.Tables.{parameters_of}
use Rattle.tests_check.specs.Reads.{reading}
use Rattle.tests_check.specs.Walk.{known_as}
use Rattle.tests_check.proofs.Names.{none-known, not-yes, before}
use Rattle.tests_check.proofs.Groups.{function-variable, function-type, Gathered, gather-next, gather-stops}
use Rattle.tests_check.proofs.group.bind_functions.Goals as goal

pub returns-then-not-new-clause-no : goal.returns-then-not-new-clause-no
returns-then-not-new-clause-no c = λ _.
    let w = c.loop-left.invariant.within in
    let t = c.loop-left-test.true in
    gather-stops c.args.tables.now (known_as c.args.tables.now c.args.standing) c.args.scope.now c.loop-left.scope c.args.functions.now c.index-functions-left.result (c.loop-left.left - 1)
    c.index-functions-left.result.variable (omega arith) c.index-functions-left.is
    (subst (Gathered c.args.tables.now (known_as c.args.tables.now c.args.standing) c.args.scope.now c.loop-left.scope c.args.functions.now) (before c.loop-left.left t) c.loop-left.invariant) (function-variable (reading c.args.tables.now) c.index-functions-left.result)
    (λ n. not-yes c.if-not-new.true ((none-known c.args.tables.now.types (parameters_of c.args.tables.now) (c.loop-left.scope.0 ++ c.loop-left.scope.1) c.index-functions-left.result.variable c.in_ok-new.new c.in_ok-new.ensures.new).1 n))

pub loop-left-preserved : goal.loop-left-preserved
loop-left-preserved c =
    let w = c.loop-left.invariant.within in
    let t = c.loop-left-test.true in
    gather-next c.args.tables.now (known_as c.args.tables.now c.args.standing) c.args.scope.now c.loop-left.scope c.bind.new.self c.args.functions.now c.index-functions-left.result (c.loop-left.left - 1)
    c.index-functions-left.result.variable c.index-functions-left.result.ty c.stand-known.result (omega arith) c.index-functions-left.is
    (subst (Gathered c.args.tables.now (known_as c.args.tables.now c.args.standing) c.args.scope.now c.loop-left.scope c.args.functions.now) (before c.loop-left.left t) c.loop-left.invariant) (function-variable (reading c.args.tables.now) c.index-functions-left.result) (function-type (reading c.args.tables.now) c.index-functions-left.result) c.stand-known.ensures
    ((none-known c.args.tables.now.types (parameters_of c.args.tables.now) (c.loop-left.scope.0 ++ c.loop-left.scope.1) c.index-functions-left.result.variable c.in_ok-new.new c.in_ok-new.ensures.new).0 c.if-not-new.false)
    (c.in_ok-new.ensures.bound c.if-not-new.false)
