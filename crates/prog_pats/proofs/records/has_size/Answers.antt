use Rattle.std.proofs.Common.{sym, ◌∙◌}
use Rattle.ty_table.specs.TypeAt.{type_at}
use Rattle.prog_check.specs.Deciding.{row_in}
use Rattle.prog_pats.proofs.Rows.{size-some, size-none}
use Rattle.prog_pats.proofs.records.has_size.Goals as goal

pub returns-in-Some : goal.returns-in-Some
returns-in-Some c = size-some c.args.wanted (row_in (type_at c.args.types.now c.args.row)) c.in-Some.size c.is_size.result (sym c.in-Some.is ∙ c.record_size.ensures) c.is_size.ensures

pub returns-in-None : goal.returns-in-None
returns-in-None c = size-none c.args.wanted (row_in (type_at c.args.types.now c.args.row)) (sym c.in-None.is ∙ c.record_size.ensures)
