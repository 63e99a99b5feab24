use Rattle.ir_uses.proofs.Tabling.{table-more, table-not}
use Rattle.std.proofs.Common.{sym, ◌∙◌}
use Rattle.ir_uses.proofs.table.are_constructors.Goals as goal

pub loop-i-preserved : goal.loop-i-preserved
loop-i-preserved c = table-more c.args.types.now c.args.rows.now c.loop-i.i _ c.loop-i-test.true c.loop-i.invariant (sym c.is_row.ensures ∙ c.if-not-is_row.false)

pub returns-then-not-is_row : goal.returns-then-not-is_row
returns-then-not-is_row c = table-not c.args.types.now c.args.rows.now c.loop-i.i _ c.loop-i-test.true (sym c.is_row.ensures ∙ c.if-not-is_row.true)
