use Rattle.std.proofs.Common.{refl, sym, ◌∙◌}
use Rattle.ty_table.specs.TypeAt.{type_at}
use Rattle.tests_check.proofs.Operations.{fields-make, fields-differ, fields-not}
use Rattle.tests_check.proofs.operation.are_fields.Goals as goal

pub returns-then-not-yes : goal.returns-then-not-yes
returns-then-not-yes c = fields-not c.args.tables.now c.args.scope.now c.args.fields.now (type_at c.args.tables.now.types c.args.ty) (c.in_ok-yes.ensures.no c.if-not-yes.true)

pub returns-then-not-is_record : goal.returns-then-not-is_record
returns-then-not-is_record c = fields-differ c.args.tables.now c.args.scope.now c.args.fields.now (type_at c.args.tables.now.types c.args.ty) c.push_field_types.new.found.items c.deref.result.now c.is_record.result
    (c.in_ok-yes.ensures.yes c.if-not-yes.false c.new-found.ensures.items) c.deref.ensures.value c.is_record.ensures c.if-not-is_record.true

pub returns : goal.returns
returns c = fields-make c.args.tables.now c.args.scope.now c.args.fields.now (type_at c.args.tables.now.types c.args.ty) c.push_field_types.new.found.items c.deref.result.now c.deref-2.result.now c.is_record.result c.do_ascend.result
    (c.in_ok-yes.ensures.yes c.if-not-yes.false c.new-found.ensures.items) c.deref.ensures.value c.deref-2.ensures.value c.is_record.ensures c.if-not-is_record.false (c.do_ascend.ensures c.args.tables.now.types)
