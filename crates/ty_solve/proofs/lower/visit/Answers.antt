use Rattle.std.proofs.Common.{refl}
use Rattle.ty_table.specs.of_ty_core.TypesOf.{head_of}
use Rattle.ty_solve.specs.Lowering.{Visits}
use Rattle.ty_solve.proofs.lower.visit.Goals as goal

pub returns-in_ok-lower_variable-in-Var-clause-visits : goal.returns-in_ok-lower_variable-in-Var-clause-visits
returns-in_ok-lower_variable-in-Var-clause-visits c = Visits.variable c.in-Var.y c.in-Var.ensures refl c.in_ok-lower_variable-in-Var.ensures.lowers

pub returns-in_ok-add_all-in-Apply-clause-visits : goal.returns-in_ok-add_all-in-Apply-clause-visits
returns-in_ok-add_all-in-Apply-clause-visits c = Visits.applied (head_of c.in-Apply.head.now) c.in-Apply.parts.now c.in-Apply.ensures.0 (c.if-not-is_old.ensures.old refl) c.in_ok-add_all-in-Apply.ensures refl refl
