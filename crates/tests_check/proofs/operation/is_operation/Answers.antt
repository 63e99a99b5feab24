use Rattle.std.proofs.Common.{◌≡◌, ◌↔◌, IsTrue, subst}
use Rattle.ir_known.specs.Knows.{marks_of}
use Rattle.ir_tables.specs.Tables.{strings_of}
use Rattle.plain_tree.specs.declared.tree.Operation.TheVariants as op
use Rattle.tests_check.proofs.Operations.{Fits, operation-is, use-fits, record-fits, perform-fits, raise-fits, initial-fits}
use Rattle.tests_check.proofs.operation.is_operation.Goals as goal

pub returns-in-Constant : goal.returns-in-Constant
returns-in-Constant c = operation-is c.args.tables.now c.args.scope.now (marks_of c.args.marks.now) c.args.ty c.args.operation.now (op.Constant c.in-Constant.constant) c.has_literal.result c.in-Constant.is (c.has_literal.ensures.fits (strings_of c.args.tables.now))

pub returns-in_ok-yes-in-Constructor : goal.returns-in_ok-yes-in-Constructor
returns-in_ok-yes-in-Constructor c = operation-is c.args.tables.now c.args.scope.now (marks_of c.args.marks.now) c.args.ty c.args.operation.now (op.Constructor c.in-Constructor.constructor c.in-Constructor.of) c.in_ok-yes-in-Constructor.yes c.in-Constructor.is c.in_ok-yes-in-Constructor.ensures

pub returns-in_ok-yes-in-Construct : goal.returns-in_ok-yes-in-Construct
returns-in_ok-yes-in-Construct c = operation-is c.args.tables.now c.args.scope.now (marks_of c.args.marks.now) c.args.ty c.args.operation.now (op.Construct c.in-Construct.place c.in-Construct.constructor c.in-Construct.of c.in-Construct.argument) c.in_ok-yes-in-Construct.yes c.in-Construct.is c.in_ok-yes-in-Construct.ensures

pub returns-in-Reference : goal.returns-in-Reference
returns-in-Reference c = operation-is c.args.tables.now c.args.scope.now (marks_of c.args.marks.now) c.args.ty c.args.operation.now (op.Reference c.in-Reference.held) c.is_maker.result c.in-Reference.is c.is_maker.ensures

pub returns-in-Refer : goal.returns-in-Refer
returns-in-Refer c = operation-is c.args.tables.now c.args.scope.now (marks_of c.args.marks.now) c.args.ty c.args.operation.now (op.Refer c.in-Refer.place c.in-Refer.held c.in-Refer.argument) c.refers.result c.in-Refer.is c.refers.ensures

pub returns-in-Content : goal.returns-in-Content
returns-in-Content c = operation-is c.args.tables.now c.args.scope.now (marks_of c.args.marks.now) c.args.ty c.args.operation.now (op.Content c.in-Content.of c.in-Content.reference) c.holds.result c.in-Content.is c.holds.ensures

pub returns-in-Pack : goal.returns-in-Pack
returns-in-Pack c = operation-is c.args.tables.now c.args.scope.now (marks_of c.args.marks.now) c.args.ty c.args.operation.now (op.Pack c.in-Pack.place c.in-Pack.of c.in-Pack.exception c.in-Pack.argument) c.packs.result c.in-Pack.is c.packs.ensures

pub returns-in-Select : goal.returns-in-Select
returns-in-Select c = operation-is c.args.tables.now c.args.scope.now (marks_of c.args.marks.now) c.args.ty c.args.operation.now (op.Select c.in-Select.of c.in-Select.label c.in-Select.record) c.selects.result c.in-Select.is c.selects.ensures

pub returns-in_ok-yes-in-Primitive : goal.returns-in_ok-yes-in-Primitive
returns-in_ok-yes-in-Primitive c = operation-is c.args.tables.now c.args.scope.now (marks_of c.args.marks.now) c.args.ty c.args.operation.now (op.Primitive c.in-Primitive.primitive c.in-Primitive.of) c.in_ok-yes-in-Primitive.yes c.in-Primitive.is c.in_ok-yes-in-Primitive.ensures

pub returns-in-Apply : goal.returns-in-Apply
returns-in-Apply c = operation-is c.args.tables.now c.args.scope.now (marks_of c.args.marks.now) c.args.ty c.args.operation.now (op.Apply c.in-Apply.place c.in-Apply.function c.in-Apply.argument) c.applies.result c.in-Apply.is c.applies.ensures

pub returns-in_ok-yes-in-Use : goal.returns-in_ok-yes-in-Use
returns-in_ok-yes-in-Use c = use-fits c.args.tables.now c.args.scope.now (marks_of c.args.marks.now) c.args.ty c.args.operation.now c.in-Use.variable c.in-Use.at c.deref.result.now c.find-known.result c.in_ok-yes-in-Use.yes c.in-Use.is
    c.deref.ensures.value c.find-known.ensures c.in_ok-yes-in-Use.ensures

pub returns-in_ok-yes-in-Record : goal.returns-in_ok-yes-in-Record
returns-in_ok-yes-in-Record c = record-fits c.args.tables.now c.args.scope.now (marks_of c.args.marks.now) c.args.ty c.args.operation.now c.in-Record.of c.in-Record.fields c.deref-in-Record.result.now c.in_ok-yes-in-Record.yes c.in-Record.is
    c.deref-in-Record.ensures.value c.in_ok-yes-in-Record.ensures

pub returns-in_ok-yes-in-Perform : goal.returns-in_ok-yes-in-Perform
returns-in_ok-yes-in-Perform c = perform-fits c.args.tables.now c.args.scope.now (marks_of c.args.marks.now) c.args.ty c.args.operation.now c.in-Perform.place c.in-Perform.primitive c.in-Perform.of c.in-Perform.arguments
    c.deref-in-Perform.result.now c.in_ok-yes-in-Perform.yes c.in-Perform.is c.deref-in-Perform.ensures.value c.in_ok-yes-in-Perform.ensures

pub returns-in-Raise : goal.returns-in-Raise
returns-in-Raise c = raise-fits c.args.tables.now c.args.scope.now (marks_of c.args.marks.now) c.args.ty c.args.operation.now c.in-Raise.packet c.args.facts.now.exn c.is_atom.result c.in-Raise.is c.requires.exn c.is_atom.ensures

pub returns-in-RaiseInitial : goal.returns-in-RaiseInitial
returns-in-RaiseInitial c = initial-fits c.args.tables.now c.args.scope.now (marks_of c.args.marks.now) c.args.ty c.args.operation.now c.in-RaiseInitial.number c.is_initial.result c.in-RaiseInitial.is c.is_initial.ensures
