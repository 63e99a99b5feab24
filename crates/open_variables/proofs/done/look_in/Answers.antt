use Rattle.ty_core.specs.TypesOf.{head_of}
use Rattle.ty_solve.proofs.Turns.{ok-such}
use Rattle.open_variables.specs.Looking.{Sees, SeesOpen}
use Rattle.open_variables.proofs.Looking.{passes-bound, passes-parts, sees-open}
use Rattle.open_variables.proofs.done.look_in.Goals as goal

pub returns-in_ok-push-in-Some : goal.returns-in_ok-push-in-Some
returns-in_ok-push-in-Some c =
    passes-bound c.args.solver.now c.args.k c.in-Var.v c.in-Some.u _ _ c.in-Var.ensures c.in-Some.ensures.is c.in_ok-push-in-Some.ensures.items

pub returns-in-None : goal.returns-in-None
returns-in-None c =
    let old = c.args.pending.now.items in
    let new = c.look_at_open.new.pending.items in
    ok-such (SeesOpen c.args.solver.now c.in-Var.v old new) (Sees c.args.solver.now c.args.k old new) c.look_at_open.result
    (λ b h. sees-open c.args.solver.now c.args.k c.in-Var.v old new b c.in-Var.ensures c.in-None.ensures.is h) c.look_at_open.ensures

pub returns-in_ok-add_all-in-Apply : goal.returns-in_ok-add_all-in-Apply
returns-in_ok-add_all-in-Apply c =
    passes-parts c.args.solver.now c.args.k (head_of c.in-Apply.field-0.now) c.in-Apply.parts.now _ _ c.in-Apply.ensures.0 c.in_ok-add_all-in-Apply.ensures
