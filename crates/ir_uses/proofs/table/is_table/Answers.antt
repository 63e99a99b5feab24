use Rattle.std.proofs.Common.{ap, ◌∙◌}
use Rattle.ir_known.specs.of_ir_tables.Rows.{constructors_at}
use Rattle.prog_check.specs.Program.{check_table}
use Rattle.ir_known.specs.of_ir_tables.Tables.{constructors_of}
use Rattle.ir_uses.proofs.Tabling.{table-fits}
use Rattle.ir_uses.proofs.table.is_table.Goals as goal

pub returns-clause-fits : goal.returns-clause-fits
returns-clause-fits c = table-fits (constructors_of c.args.tables.now) c.are_constructors.result (c.are_constructors.ensures ∙ ap (λ ks. check_table (constructors_at c.args.tables.now.types ks)) c.rows.ensures)

pub returns-clause-decided : goal.returns-clause-decided
returns-clause-decided c = c.are_constructors.ensures ∙ ap (λ ks. check_table (constructors_at c.args.tables.now.types ks)) c.rows.ensures
