use Rattle.ty_table.specs.of_ty_core.Types.{var}
use Rattle.ty_table.specs.TypeAt.{type_at}
use Rattle.ty_solve.specs.Substitution.{sub}
use Rattle.ty_solve.specs.SlotsOf.{seen, entries, tasks_of}
use Rattle.ty_solve.specs.Task.{Bind}
use Rattle.ty_solve.specs.Compared.{Settled}
use Rattle.ty_solve.proofs.Comparing.{remembers-dropped}
use Rattle.std.proofs.Common.{◌≡◌, length, map, Some, None, refl, sym, ap, subst, ◌∙◌, rules}
use Rattle.ty_table.specs.of_ty_core.TypesOf.{head_of}
use Rattle.ty_solve.proofs.StepArms.{heads-clash, counts-clash}
use Rattle.ty_solve.proofs.Arms.{all-length}
use Rattle.std.proofs.Common.{length, subst, refl}
use Rattle.ty_table.specs.TypeAt.{type_at}
use Rattle.ty_solve.specs.SlotsOf.{seen, entries}
use Rattle.ty_solve.specs.Finding.{IsWalked}
use Rattle.ty_solve.proofs.StepArms.{bind-steps, applied-variable, earlier-variable}
use Rattle.ty_solve.proofs.step.equal_found.Goals as goal

pub returns-in-Var-view-2-clause-steps : goal.returns-in-Var-view-2-clause-steps
returns-in-Var-view-2-clause-steps c = bind-steps (length (entries c.args.s.now.types c.args.s.now.slots.items)) (seen c.args.s.now.types c.args.s.now.slots.items) c.args.s.now.acyclic.0 _ (type_at c.args.s.now.types c.args.a) (type_at c.args.s.now.types c.args.b) (type_at c.args.s.now.types c.args.a) c.in-Var-view-2.y c.in-Var-view-2.ensures refl (subst (IsWalked (seen c.args.s.now.types c.args.s.now.slots.items)) c.in-Var-view-2.ensures c.requires.right_walked) c.requires.left_walked (applied-variable _ _ _ _ c.in-Apply.ensures.0)

pub returns-then-not-same_head-clause-cause : goal.returns-then-not-same_head-clause-cause
returns-then-not-same_head-clause-cause c =
    let ne : (head_of c.in-Apply.h.now ≡ head_of c.in-Apply-view-2.g.now → ⊥) = search rules in
    heads-clash (seen c.args.s.now.types c.args.s.now.slots.items) (head_of c.in-Apply.h.now) (head_of c.in-Apply-view-2.g.now) _ _ (type_at c.args.s.now.types c.args.a) (type_at c.args.s.now.types c.args.b) c.in-Apply.ensures.0 c.in-Apply-view-2.ensures.0 ne

pub returns-then-ts-us-clause-cause : goal.returns-then-ts-us-clause-cause
returns-then-ts-us-clause-cause c =
    let ne : (length c.in-Apply.ts.now ≡ length c.in-Apply-view-2.us.now → ⊥) = search rules in
    counts-clash (seen c.args.s.now.types c.args.s.now.slots.items) (head_of c.in-Apply.h.now) (head_of c.in-Apply-view-2.g.now) (map (type_at c.args.s.now.types) c.in-Apply.ts.now) (map (type_at c.args.s.now.types) c.in-Apply-view-2.us.now) (type_at c.args.s.now.types c.args.a) (type_at c.args.s.now.types c.args.b) c.in-Apply.ensures.0 c.in-Apply-view-2.ensures.0 (λ e. ne (sym (all-length c.args.s.now.types c.in-Apply.ts.now) ∙ e ∙ all-length c.args.s.now.types c.in-Apply-view-2.us.now))

pub returns-then-x-y-clause-remembers : goal.returns-then-x-y-clause-remembers
returns-then-x-y-clause-remembers c = remembers-dropped c.args.s.now.types (seen c.args.s.now.types c.args.s.now.slots.items) None c.args.compared.now.keys (tasks_of c.args.s.now.types c.args.tasks.now.items) (type_at c.args.s.now.types c.args.a) (type_at c.args.s.now.types c.args.b) (λ f i j. Settled.equal (ap (sub f) (c.in-Var.ensures ∙ ap var c.if-x-y.true ∙ sym c.in-Var-view.ensures))) c.requires.remembered

pub returns-else-x-y-2-clause-remembers : goal.returns-else-x-y-2-clause-remembers
returns-else-x-y-2-clause-remembers c = remembers-dropped c.args.s.now.types (seen c.args.s.now.types c.args.s.now.slots.items) (Some (Bind c.in-Var.x (type_at c.args.s.now.types c.args.b))) c.args.compared.now.keys (tasks_of c.args.s.now.types c.args.tasks.now.items) (type_at c.args.s.now.types c.args.a) (type_at c.args.s.now.types c.args.b) (λ f i j. Settled.equal (ap (sub f) c.in-Var.ensures ∙ j)) c.requires.remembered

pub returns-in-Apply-view-clause-remembers : goal.returns-in-Apply-view-clause-remembers
returns-in-Apply-view-clause-remembers c = remembers-dropped c.args.s.now.types (seen c.args.s.now.types c.args.s.now.slots.items) (Some (Bind c.in-Var.x (type_at c.args.s.now.types c.args.b))) c.args.compared.now.keys (tasks_of c.args.s.now.types c.args.tasks.now.items) (type_at c.args.s.now.types c.args.a) (type_at c.args.s.now.types c.args.b) (λ f i j. Settled.equal (ap (sub f) c.in-Var.ensures ∙ j)) c.requires.remembered

pub returns-in-Var-view-2-clause-remembers : goal.returns-in-Var-view-2-clause-remembers
returns-in-Var-view-2-clause-remembers c = remembers-dropped c.args.s.now.types (seen c.args.s.now.types c.args.s.now.slots.items) (Some (Bind c.in-Var-view-2.y (type_at c.args.s.now.types c.args.a))) c.args.compared.now.keys (tasks_of c.args.s.now.types c.args.tasks.now.items) (type_at c.args.s.now.types c.args.a) (type_at c.args.s.now.types c.args.b) (λ f i j. Settled.equal (sym j ∙ sym (ap (sub f) c.in-Var-view-2.ensures))) c.requires.remembered

pub returns-then-x-y-2-clause-remembers : goal.returns-then-x-y-2-clause-remembers
returns-then-x-y-2-clause-remembers c = remembers-dropped c.args.s.now.types (seen c.args.s.now.types c.args.s.now.slots.items) (Some (Bind c.in-Var-view.y (type_at c.args.s.now.types c.args.a))) c.args.compared.now.keys (tasks_of c.args.s.now.types c.args.tasks.now.items) (type_at c.args.s.now.types c.args.a) (type_at c.args.s.now.types c.args.b) (λ f i j. Settled.equal (sym j ∙ sym (ap (sub f) c.in-Var-view.ensures))) c.requires.remembered

pub returns-then-x-y-2-clause-steps : goal.returns-then-x-y-2-clause-steps
returns-then-x-y-2-clause-steps c = bind-steps (length (entries c.args.s.now.types c.args.s.now.slots.items)) (seen c.args.s.now.types c.args.s.now.slots.items) c.args.s.now.acyclic.0 _ (type_at c.args.s.now.types c.args.a) (type_at c.args.s.now.types c.args.b) (type_at c.args.s.now.types c.args.a) c.in-Var-view.y c.in-Var-view.ensures refl (subst (IsWalked (seen c.args.s.now.types c.args.s.now.slots.items)) c.in-Var-view.ensures c.requires.right_walked) c.requires.left_walked (earlier-variable _ c.in-Var.x c.in-Var-view.y c.in-Var.ensures c.if-x-y-2.true)
