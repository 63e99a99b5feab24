use Rattle.ir_known.specs.Knows.{marks_of}
use Rattle.tests_check.proofs.Cases.{constructed-opens, no-constructor}
use Rattle.tests_check.proofs.case.bind_constructed.Goals as goal

pub returns-then-not-yes-clause-no : goal.returns-then-not-yes-clause-no
returns-then-not-yes-clause-no c = λ _. no-constructor c.args.tables.now (marks_of c.args.marks.now) c.args.scope.now c.args.ty c.args.constructor c.args.argument c.in_ok-yes.yes c.in_ok-yes.ensures.fits c.if-not-yes.true

pub returns-clause-yes : goal.returns-clause-yes
returns-clause-yes c = λ y. constructed-opens c.args.tables.now (marks_of c.args.marks.now) c.args.scope.now c.args.ty c.args.constructor c.args.argument c.bind_parameter.new.scope c.in_ok-yes.yes c.in_ok-yes.ensures.fits c.if-not-yes.false
    (c.in_ok-yes-2.ensures.over y) (c.in_ok-yes-2.ensures.new y) (c.in_ok-yes-2.ensures.bound y)

pub returns-clause-no : goal.returns-clause-no
returns-clause-no c = λ n p. c.in_ok-yes-2.ensures.no n p.1 p.2
