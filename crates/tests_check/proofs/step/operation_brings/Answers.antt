use Rattle.std.proofs.Common.{refl}
use Rattle.ir_known.specs.Knows.{marks_of}
use Rattle.ir_tables.specs.Tables.{parameters_of, parameters_at}
use Rattle.plain_tree.specs.TreeOf.{operation_of}
use Rattle.tests_check.specs.Reads.{reading}
use Rattle.tests_check.proofs.Names.{marks-many}
use Rattle.tests_check.proofs.Binding.{let-not-general, let-not-open, let-not-typed, let-fits, let-bound}
use Rattle.tests_check.proofs.step.operation_brings.Goals as goal

pub returns-then-not-operation_may-clause-no : goal.returns-then-not-operation_may-clause-no
returns-then-not-operation_may-clause-no c = λ _. let-not-general c.args.tables.now (marks_of c.args.marks.now) c.args.scope.now c.args.binding (operation_of (reading c.args.tables.now) c.args.operation.now) c.operation_may.result c.operation_may.ensures c.if-not-operation_may.true

pub returns-then-not-yes-clause-no : goal.returns-then-not-yes-clause-no
returns-then-not-yes-clause-no c = λ _. let-not-open c.args.tables.now (marks_of c.args.marks.now) c.args.scope.now c.args.binding (operation_of (reading c.args.tables.now) c.args.operation.now) (c.in_ok-yes.ensures.no c.if-not-yes.true)

pub returns-then-not-yes-2-clause-no : goal.returns-then-not-yes-2-clause-no
returns-then-not-yes-2-clause-no c = λ _. let-not-typed c.args.tables.now (marks_of c.args.marks.now) c.args.scope.now c.args.binding (operation_of (reading c.args.tables.now) c.args.operation.now) (marks_of c.open_binding.new.marks) c.in_ok-yes-2.yes (c.in_ok-yes.ensures.declared c.if-not-yes.false) c.in_ok-yes-2.ensures c.if-not-yes-2.true

pub returns-clause-yes : goal.returns-clause-yes
returns-clause-yes c = λ y. let-fits c.args.tables.now (marks_of c.args.marks.now) c.args.scope.now c.args.binding (operation_of (reading c.args.tables.now) c.args.operation.now) c.operation_may.result c.in_ok-yes-2.yes c.in_ok-new.new (marks_of c.open_binding.new.marks) c.operation_may.ensures c.if-not-operation_may.false (c.in_ok-yes.ensures.yes c.if-not-yes.false)
    (c.in_ok-yes.ensures.declared c.if-not-yes.false) c.in_ok-yes-2.ensures c.if-not-yes-2.false c.in_ok-new.ensures.new y

pub returns-clause-no : goal.returns-clause-no
returns-clause-no c = λ n. let-bound c.args.tables.now (marks_of c.args.marks.now) c.args.scope.now c.args.binding (operation_of (reading c.args.tables.now) c.args.operation.now) c.in_ok-new.new c.in_ok-new.ensures.new n

pub returns-clause-marks : goal.returns-clause-marks
returns-clause-marks c = λ _. c.leave.ensures (parameters_at (parameters_of c.args.tables.now) c.args.binding.parameters) (marks_of c.args.marks.now) (c.in_ok-yes.ensures.declared c.if-not-yes.false)
    (marks-many c.args.marks.now (marks_of c.args.marks.now) c.len-len.result c.len-len.ensures refl)
