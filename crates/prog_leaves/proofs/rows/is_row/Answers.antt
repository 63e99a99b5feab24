use Rattle.std.proofs.Common.{ap, ◌∙◌}
use Rattle.ty_table.specs.TypeAt.{type_at}
use Rattle.label_rows.specs.Order.{sorted_by}
use Rattle.ir_poly.specs.Types.{ascend, labels_in, row_type}
use Rattle.prog_pats.specs.of_ir_uses.Fields.{field_types}
use Rattle.prog_check.specs.Same.{same_type}
use Rattle.prog_pats.proofs.of_prog_parts.Truths.{two, as-same}
use Rattle.prog_leaves.specs.Right.{is_row}
use Rattle.prog_leaves.proofs.Typing.{row-in-order}
use Rattle.prog_leaves.proofs.rows.is_row.Goals as goal

pub returns : goal.returns
unfolding is_row
returns c =
    let is = row-in-order c.args.tables.now c.args.fields.now c.in_ok-written.written.items c.in_ok-row.row.items
    (c.in_ok-row.ensures ∙ ap (sorted_by (λ f. f.0)) c.deref.ensures.value) c.in_ok-written.ensures in
    two c.both.ensures
    (c.do_ascend-ascending.ensures c.args.tables.now.types ∙ ap (λ r. ascend (labels_in (field_types c.args.tables.now.types r))) c.deref-2.ensures.value ∙ ap (λ r. ascend (labels_in r)) is)
    (as-same c.is_record-typed.result (type_at c.args.tables.now.types c.args.ty) (row_type (field_types c.args.tables.now.types c.deref-3.result.now)) c.is_record-typed.ensures
    ∙ ap (λ r. same_type (type_at c.args.tables.now.types c.args.ty) (row_type (field_types c.args.tables.now.types r))) c.deref-3.ensures.value
    ∙ ap (λ r. same_type (type_at c.args.tables.now.types c.args.ty) (row_type r)) is)
