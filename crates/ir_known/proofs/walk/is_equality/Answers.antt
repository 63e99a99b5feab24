use Rattle.std.proofs.Common.{Some, ap, sym, ◌∙◌}
use Rattle.ir_tables.specs.of_ty_table.TypeAt.{type_at}
use Rattle.ir_tables.specs.of_ir_poly.Types.{admits_in}
use Rattle.ir_known.specs.Knows.{marks_of}
use Rattle.ir_known.proofs.FewSo.{admits-closed, admits-nowhere, admits-few}
use Rattle.ir_known.proofs.walk.is_equality.Goals as goal

pub returns-then-admits_eq : goal.returns-then-admits_eq
returns-then-admits_eq c = admits-closed (admits_in (marks_of c.args.scope.now)) (type_at c.args.types.now c.args.t) c.admits_eq.result c.admits_eq.ensures c.if-admits_eq.true

pub returns-then-not-admits_eq_everywhere : goal.returns-then-not-admits_eq_everywhere
returns-then-not-admits_eq_everywhere c = admits-nowhere (admits_in (marks_of c.args.scope.now)) (type_at c.args.types.now c.args.t) c.admits_eq_everywhere.result c.admits_eq_everywhere.ensures c.if-not-admits_eq_everywhere.true

pub returns-in-Some-true : goal.returns-in-Some-true
returns-in-Some-true c = admits-few (admits_in (marks_of c.args.scope.now)) (type_at c.args.types.now c.args.t) c.admits_eq_everywhere.result c.few.result c.admits_eq_everywhere.ensures c.if-not-admits_eq_everywhere.false c.few.ensures
    (sym (c.in-Some-true.is ∙ ap Some c.in-Some-true.field-0-test) ∙ c.few_so.ensures)
