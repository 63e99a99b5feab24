use Rattle.std.proofs.Common.{sym, subst}
use Rattle.ty_table.specs.TypeAt.{type_at}
use Rattle.ty_solve.specs.Substitution.{sub}
use Rattle.core_rules.specs.Objects.{Over}
use Rattle.final_types.specs.Bounds.{IsBound}
use Rattle.final_types.specs.Nodes.{types_of}
use Rattle.final_types.proofs.Bounding.{apply-bound, variable-bound}
use Rattle.final_types.proofs.bound.bound_of.Goals as goal

pub returns-in-Var : goal.returns-in-Var
returns-in-Var c = λ g end.
    subst (λ l. Over l.names (sub g (type_at (types_of c.args.solver.now) c.args.k))) (sym c.limit_of.ensures) (variable-bound c.args.solver.now g end c.args.k c.in-Var.v c.in-Var.ensures)

pub returns-in-Apply : goal.returns-in-Apply
returns-in-Apply c = λ g end.
    subst (λ o. IsBound o (sub g (type_at (types_of c.args.solver.now) c.args.k))) (sym c.parts_bound.ensures)
    (apply-bound c.args.solver.now c.args.bounds.now c.requires g end c.args.k c.head_bound.result c.in-Apply.head.now c.in-Apply.parts.now c.in-Apply.ensures.0 c.head_bound.ensures)
