use Rattle.ir_known.specs.Knows.{marks_of}
use Rattle.ir_tables.specs.Tables.{strings_of}
use Rattle.plain_tree.specs.declared.tree.Case.TheVariants as case
use Rattle.tests_check.proofs.Cases.{opened-is, asks-is, literal-opens, literal-closed, alone-opens, alone-closed, sized-opens, sized-closed, packet-opens, packet-closed, no-packet}
use Rattle.tests_check.proofs.case.bind_case.Goals as goal

pub returns-in-Constant-clause-yes : goal.returns-in-Constant-clause-yes
returns-in-Constant-clause-yes c = λ y. literal-opens c.args.tables.now (marks_of c.args.marks.now) c.args.scope.now c.args.ty c.args.case c.in-Constant.constant c.has_literal.result c.in-Constant.is (c.has_literal.ensures.fits (strings_of c.args.tables.now)) y

pub returns-in-Constant-clause-no : goal.returns-in-Constant-clause-no
returns-in-Constant-clause-no c = λ n. literal-closed c.args.tables.now (marks_of c.args.marks.now) c.args.scope.now c.args.ty c.args.case c.in-Constant.constant c.has_literal.result c.in-Constant.is (c.has_literal.ensures.fits (strings_of c.args.tables.now)) n

pub returns-in_ok-yes-in-Constructor-clause-yes : goal.returns-in_ok-yes-in-Constructor-clause-yes
returns-in_ok-yes-in-Constructor-clause-yes c = λ y. alone-opens c.args.tables.now (marks_of c.args.marks.now) c.args.scope.now c.args.ty c.args.case c.in-Constructor.constructor c.in_ok-yes-in-Constructor.yes c.in-Constructor.is c.in_ok-yes-in-Constructor.ensures.fits y

pub returns-in_ok-yes-in-Constructor-clause-no : goal.returns-in_ok-yes-in-Constructor-clause-no
returns-in_ok-yes-in-Constructor-clause-no c = λ n. alone-closed c.args.tables.now (marks_of c.args.marks.now) c.args.scope.now c.args.ty c.args.case c.in-Constructor.constructor c.in_ok-yes-in-Constructor.yes c.in-Constructor.is c.in_ok-yes-in-Constructor.ensures.fits n

pub returns-in_ok-yes-in-ConstructorOf-clause-yes : goal.returns-in_ok-yes-in-ConstructorOf-clause-yes
returns-in_ok-yes-in-ConstructorOf-clause-yes c = λ y. opened-is c.args.tables.now (marks_of c.args.marks.now) c.args.scope.now c.args.ty c.bind_constructed.new.scope c.args.case (case.ConstructorOf c.in-ConstructorOf.constructor c.in-ConstructorOf.argument) c.in-ConstructorOf.is
    (c.in_ok-yes-in-ConstructorOf.ensures.yes y)

pub returns-in_ok-yes-in-ConstructorOf-clause-no : goal.returns-in_ok-yes-in-ConstructorOf-clause-no
returns-in_ok-yes-in-ConstructorOf-clause-no c = λ n. asks-is c.args.tables.now (marks_of c.args.marks.now) c.args.scope.now c.args.ty c.args.case (case.ConstructorOf c.in-ConstructorOf.constructor c.in-ConstructorOf.argument) c.in-ConstructorOf.is (c.in_ok-yes-in-ConstructorOf.ensures.no n)

pub returns-then-not-same_type-clause-no : goal.returns-then-not-same_type-clause-no
returns-then-not-same_type-clause-no c = λ _. no-packet c.args.tables.now (marks_of c.args.marks.now) c.args.scope.now c.args.ty c.args.exn c.requires c.args.case c.in-Exception.exception c.same_type.result c.in-Exception.is c.same_type.ensures c.if-not-same_type.true

pub returns-else-not-same_type-clause-yes : goal.returns-else-not-same_type-clause-yes
returns-else-not-same_type-clause-yes c = λ y. packet-opens c.args.tables.now (marks_of c.args.marks.now) c.args.scope.now c.args.ty c.args.exn c.requires c.args.case c.in-Exception.exception c.same_type.result c.is_local_exception.result c.in-Exception.is c.same_type.ensures c.if-not-same_type.false
    c.is_local_exception.ensures y

pub returns-else-not-same_type-clause-no : goal.returns-else-not-same_type-clause-no
returns-else-not-same_type-clause-no c = λ n. packet-closed c.args.tables.now (marks_of c.args.marks.now) c.args.scope.now c.args.ty c.args.exn c.requires c.args.case c.in-Exception.exception c.is_local_exception.result c.in-Exception.is c.is_local_exception.ensures n

pub returns-in_ok-yes-in-ExceptionOf-clause-yes : goal.returns-in_ok-yes-in-ExceptionOf-clause-yes
returns-in_ok-yes-in-ExceptionOf-clause-yes c = λ y. opened-is c.args.tables.now (marks_of c.args.marks.now) c.args.scope.now c.args.ty c.bind_packed.new.scope c.args.case (case.ExceptionOf c.in-ExceptionOf.exception c.in-ExceptionOf.argument) c.in-ExceptionOf.is
    (c.in_ok-yes-in-ExceptionOf.ensures.yes y)

pub returns-in_ok-yes-in-ExceptionOf-clause-no : goal.returns-in_ok-yes-in-ExceptionOf-clause-no
returns-in_ok-yes-in-ExceptionOf-clause-no c = λ n. asks-is c.args.tables.now (marks_of c.args.marks.now) c.args.scope.now c.args.ty c.args.case (case.ExceptionOf c.in-ExceptionOf.exception c.in-ExceptionOf.argument) c.in-ExceptionOf.is (c.in_ok-yes-in-ExceptionOf.ensures.no n)

pub returns-in-Record-clause-yes : goal.returns-in-Record-clause-yes
returns-in-Record-clause-yes c = λ y. sized-opens c.args.tables.now (marks_of c.args.marks.now) c.args.scope.now c.args.ty c.args.case c.in-Record.size c.is_sized_record.result c.in-Record.is c.is_sized_record.ensures y

pub returns-in-Record-clause-no : goal.returns-in-Record-clause-no
returns-in-Record-clause-no c = λ n. sized-closed c.args.tables.now (marks_of c.args.marks.now) c.args.scope.now c.args.ty c.args.case c.in-Record.size c.is_sized_record.result c.in-Record.is c.is_sized_record.ensures n
