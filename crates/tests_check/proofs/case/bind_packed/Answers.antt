use Rattle.ir_known.specs.Knows.{marks_of}
use Rattle.tests_check.proofs.Cases.{packed-opens, no-packed, no-such-exception}
use Rattle.tests_check.proofs.case.bind_packed.Goals as goal

pub returns-then-not-same_type-clause-no : goal.returns-then-not-same_type-clause-no
returns-then-not-same_type-clause-no c = λ _. no-packed c.args.tables.now (marks_of c.args.marks.now) c.args.scope.now c.args.ty c.args.exn c.requires c.args.exception c.args.argument c.same_type.result c.same_type.ensures c.if-not-same_type.true

pub returns-then-not-is_local_exception-clause-no : goal.returns-then-not-is_local_exception-clause-no
returns-then-not-is_local_exception-clause-no c = λ _. no-such-exception c.args.tables.now (marks_of c.args.marks.now) c.args.scope.now c.args.ty c.args.exception c.args.argument c.is_local_exception.result c.is_local_exception.ensures c.if-not-is_local_exception.true

pub returns-clause-yes : goal.returns-clause-yes
returns-clause-yes c = λ y. packed-opens c.args.tables.now (marks_of c.args.marks.now) c.args.scope.now c.args.ty c.args.exn c.requires c.args.exception c.args.argument c.bind_parameter.new.scope c.same_type.result c.is_local_exception.result c.same_type.ensures c.if-not-same_type.false
    c.is_local_exception.ensures c.if-not-is_local_exception.false (c.in_ok-yes.ensures.over y) (c.in_ok-yes.ensures.new y) (c.in_ok-yes.ensures.bound y)

pub returns-clause-no : goal.returns-clause-no
returns-clause-no c = λ n p. c.in_ok-yes.ensures.no n p.1 p.3
