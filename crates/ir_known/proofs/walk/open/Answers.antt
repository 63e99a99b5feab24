use Rattle.std.proofs.Common.{sym, ◌∙◌, subst}
use Rattle.ir_tables.specs.of_ty_core.TypesOf.{head_of}
use Rattle.ir_tables.specs.of_ty_table.TypeAt.{types_at}
use Rattle.ir_known.specs.Knows.{marks_of}
use Rattle.ir_known.specs.Asked.{Asked}
use Rattle.ir_known.proofs.Opening.{opens-none, opens-parts, always, so-variable, not-so-variable}
use Rattle.ir_known.proofs.walk.open.Goals as goal

pub returns-in-Var-clause-opens : goal.returns-in-Var-clause-opens
returns-in-Var-clause-opens c = λ y. opens-none c.args.types.now (Asked c.args.question (marks_of c.args.scope.now)) c.args.k c.args.pending.now.items
    (so-variable c.args.question (marks_of c.args.scope.now) c.in-Var.v _ c.is_so.result c.in-Var.ensures c.is_so.ensures y)

pub returns-in-Var-clause-no : goal.returns-in-Var-clause-no
returns-in-Var-clause-no c = λ n a. not-so-variable c.args.question (marks_of c.args.scope.now) c.in-Var.v _ c.is_so.result c.in-Var.ensures c.is_so.ensures n a

pub returns-in-Always-clause-opens : goal.returns-in-Always-clause-opens
returns-in-Always-clause-opens c = λ _. opens-none c.args.types.now (Asked c.args.question (marks_of c.args.scope.now)) c.args.k c.args.pending.now.items
    (subst (Asked c.args.question (marks_of c.args.scope.now)) (sym c.in-Apply.ensures.0)
    (always c.args.question (marks_of c.args.scope.now) (head_of c.in-Apply.head.now) (types_at c.args.types.now c.in-Apply.parts.now) (sym c.rule.ensures ∙ c.in-Always.is)))

pub returns-in_ok-extend_from_slice-in-ByArguments-clause-opens : goal.returns-in_ok-extend_from_slice-in-ByArguments-clause-opens
returns-in_ok-extend_from_slice-in-ByArguments-clause-opens c = λ _. opens-parts c.args.types.now c.args.question (marks_of c.args.scope.now) c.args.k (head_of c.in-Apply.head.now) c.in-Apply.parts.now c.args.pending.now.items _
    c.in-Apply.ensures.0 (sym c.rule.ensures ∙ c.in-ByArguments.is) c.in_ok-extend_from_slice-in-ByArguments.ensures.items
