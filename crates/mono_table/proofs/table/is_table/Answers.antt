use Rattle.std.proofs.Common.{◌&&◌, length, sym, ap, ◌∙◌}
use Rattle.mono_table.specs.Right.{rows_right}
use Rattle.mono_table.proofs.Rows.{table-decided}
use Rattle.mono_table.proofs.table.is_table.Goals as goal

pub returns-then-has_basis : goal.returns-then-has_basis
returns-then-has_basis c = table-decided c.args.types.now c.len-len.ensures.once c.are_rows.result (c.are_rows.ensures ∙ ap (λ q. q && rows_right c.args.types.now (length c.args.types.now)) (sym (sym c.has_basis.ensures ∙ c.if-has_basis.true)))

pub returns-else-has_basis : goal.returns-else-has_basis
returns-else-has_basis c = table-decided c.args.types.now c.len-len.ensures.once c.has_basis.result (c.if-has_basis.false ∙ sym (ap (λ q. q && rows_right c.args.types.now (length c.args.types.now)) (sym c.has_basis.ensures ∙ c.if-has_basis.false)))
