use Rattle.std.proofs.Common.{sym, ◌∙◌}
use Rattle.ir_tables.specs.of_ty_table.TypeAt.{type_at}
use Rattle.ir_known.specs.Knows.{marks_of}
use Rattle.ir_known.proofs.FewSo.{few-answers}
use Rattle.ir_known.proofs.walk.is_over.Goals as goal

pub returns-in-Some : goal.returns-in-Some
returns-in-Some c = few-answers (marks_of c.args.scope.now) (type_at c.args.types.now c.args.t) c.few.result c.in-Some.yes c.few.ensures (sym c.in-Some.is ∙ c.few_so.ensures)
