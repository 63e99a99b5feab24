use Rattle.std.proofs.Common.{sym, ap, ◌∙◌}
use Rattle.ty_table.specs.of_ty_core.Types.{con, labels}
use Rattle.ty_table.specs.of_ty_core.TypesOf.{head_of}
use Rattle.ty_table.specs.of_ty_core.declared.ty.Head.{Head}
use Rattle.ty_table.specs.TypeAt.{types_at}
use Rattle.ty_solve.specs.SlotsOf.{row_in}
use Rattle.ty_solve.proofs.RowResults.{refuses-as}
use Rattle.ty_solve.proofs.Joining.{function-clash, name-clash}
use Rattle.ty_solve.proofs.close.close.Goals as goal

pub returns-in-Function-clause-cause : goal.returns-in-Function-clause-cause
returns-in-Function-clause-cause c = λ s. function-clash s (row_in c.args.table.now c.args.row.now) (head_of c.args.head.now) _ (ap head_of c.in-Function.is)

pub returns-in-Named-clause-cause : goal.returns-in-Named-clause-cause
returns-in-Named-clause-cause c = λ s. name-clash s (row_in c.args.table.now c.args.row.now) (head_of c.args.head.now) _ _ (ap head_of c.in-Named.is)

pub returns-in-Record-clause-cause : goal.returns-in-Record-clause-cause
returns-in-Record-clause-cause c =
    let ts = c.args.table.now in
    refuses-as (row_in ts c.args.row.now) _ _ c.close_record.result (ap (λ l. con (labels l) (types_at ts c.args.types.now)) c.deref.ensures.value ∙ ap (λ (h : Head). con (head_of h) (types_at ts c.args.types.now)) (sym c.in-Record.is)) c.close_record.ensures.cause
