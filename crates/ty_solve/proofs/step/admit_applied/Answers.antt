use Rattle.std.proofs.Common.{◌∙◌, ◌≡◌, length, map, subst, sym, refl, rules, None, IfOk, IfErr}
use Rattle.ty_table.specs.of_ty_core.Types.{Typ, con, none}
use Rattle.ty_table.specs.of_ty_core.TypesOf.{head_of}
use Rattle.ty_table.specs.of_ty_core.Marks.{IsOf}
use Rattle.ty_table.specs.of_ty_core.declared.mark.Mark.{Mark}
use Rattle.ty_table.specs.TypeAt.{type_at, types_at}
use Rattle.ty_solve.specs.SlotsOf.{seen, entries, tasks_of}
use Rattle.ty_solve.specs.Task.{Admit}
use Rattle.ty_solve.specs.Tasks.{Steps, RefusesTask}
use Rattle.ty_solve.specs.declared.refused.UnifyRefused.TheVariants.{Clash}
use Rattle.ty_solve.proofs.Arms.{all-length}
use Rattle.ty_solve.specs.Compared.{Waits}
use Rattle.ty_solve.specs.Parts.{AdmitParts, RefusesParts}
use Rattle.ty_solve.proofs.Slots.{entries-length}
use Rattle.ty_solve.proofs.Turns.{ok-then, err-then}
use Rattle.ty_solve.proofs.StepArms.{never-clash, arguments-steps, arguments-clash, arguments-outside, class-outside}
use Rattle.ty_solve.proofs.step.admit_applied.Goals as goal

pub returns-in-ByArguments-clause-steps : goal.returns-in-ByArguments-clause-steps
returns-in-ByArguments-clause-steps c =
    let s = c.args.s.now in
    subst
    (λ (k : Mark). IfOk c.admit_all.result (λ _. Steps (length (entries s.types s.slots.items)) (seen s.types s.slots.items) s.acyclic.0 (tasks_of s.types c.args.tasks.now.items) (Admit k (con (head_of c.args.h.now) (types_at s.types c.args.ts.now))) (tasks_of s.types c.admit_all.new.tasks.items) None))
    (sym c.in-Equality.is)
    (ok-then
    (AdmitParts (length s.slots.items) (seen s.types s.slots.items) s.acyclic.0 (tasks_of s.types c.args.tasks.now.items) (tasks_of s.types c.admit_all.new.tasks.items) (types_at s.types c.args.ts.now))
    (Steps (length (entries s.types s.slots.items)) (seen s.types s.slots.items) s.acyclic.0 (tasks_of s.types c.args.tasks.now.items) (Admit Mark.Equality (con (head_of c.args.h.now) (types_at s.types c.args.ts.now))) (tasks_of s.types c.admit_all.new.tasks.items) None)
    c.admit_all.result
    (λ x. arguments-steps _ _ _ _ _ (head_of c.args.h.now) _ _ refl c.in-ByArguments.ensures (subst (λ n. AdmitParts n (seen s.types s.slots.items) s.acyclic.0 (tasks_of s.types c.args.tasks.now.items) (tasks_of s.types c.admit_all.new.tasks.items) (types_at s.types c.args.ts.now)) (sym (entries-length s.types s.slots.items)) x))
    c.admit_all.ensures.parts)

pub returns-in-ByArguments-clause-stay : goal.returns-in-ByArguments-clause-stay
returns-in-ByArguments-clause-stay c =
    let s = c.args.s.now in
    ok-then
    (AdmitParts (length s.slots.items) (seen s.types s.slots.items) s.acyclic.0 (tasks_of s.types c.args.tasks.now.items) (tasks_of s.types c.admit_all.new.tasks.items) (types_at s.types c.args.ts.now))
    ((a b : Typ) → Waits (tasks_of s.types c.args.tasks.now.items) a b → Waits (tasks_of s.types c.admit_all.new.tasks.items) a b)
    c.admit_all.result
    (λ x. x.stay)
    c.admit_all.ensures.parts

pub returns-in-ByArguments-clause-cause : goal.returns-in-ByArguments-clause-cause
returns-in-ByArguments-clause-cause c =
    let s = c.args.s.now in
    subst
    (λ (k : Mark). IfErr c.admit_all.result (RefusesTask (seen s.types s.slots.items) (Admit k (con (head_of c.args.h.now) (types_at s.types c.args.ts.now)))))
    (sym c.in-Equality.is)
    (err-then
    (RefusesParts (seen s.types s.slots.items) (types_at s.types c.args.ts.now))
    (RefusesTask (seen s.types s.slots.items) (Admit Mark.Equality (con (head_of c.args.h.now) (types_at s.types c.args.ts.now))))
    c.admit_all.result
    (λ e x. arguments-clash (seen s.types s.slots.items) (head_of c.args.h.now) (types_at s.types c.args.ts.now) _ refl c.in-ByArguments.ensures e x)
    c.admit_all.ensures.cause)

pub returns-in-Never-clause-cause : goal.returns-in-Never-clause-cause
returns-in-Never-clause-cause c = subst (λ (k : Mark). RefusesTask (seen c.args.s.now.types c.args.s.now.slots.items) (Admit k (con (head_of c.args.h.now) (types_at c.args.s.now.types c.args.ts.now))) Clash) (sym c.in-Equality.is) (never-clash (seen c.args.s.now.types c.args.s.now.slots.items) (head_of c.args.h.now) _ _ refl (c.in-Never.ensures))

pub returns-then-not-is_empty-clause-cause : goal.returns-then-not-is_empty-clause-cause
returns-then-not-is_empty-clause-cause c =
    let ne : (length c.args.ts.now ≡ 0 → ⊥) = search rules in
    subst (λ (k : Mark). RefusesTask (seen c.args.s.now.types c.args.s.now.slots.items) (Admit k (con (head_of c.args.h.now) (types_at c.args.s.now.types c.args.ts.now))) Clash) (sym c.in-Class.is) (arguments-outside (seen c.args.s.now.types c.args.s.now.slots.items) c.in-Class.class (head_of c.args.h.now) (map (type_at c.args.s.now.types) c.args.ts.now) _ refl (λ e. ne (sym (all-length c.args.s.now.types c.args.ts.now) ∙ e)))

pub returns-else-head_is_of-clause-cause : goal.returns-else-head_is_of-clause-cause
returns-else-head_is_of-clause-cause c =
    let e : length c.args.ts.now ≡ 0 = search rules in
    let ne : (IsOf c.in-Class.class (con (head_of c.args.h.now) none) → ⊥) = search rules in
    subst (λ (k : Mark). RefusesTask (seen c.args.s.now.types c.args.s.now.slots.items) (Admit k (con (head_of c.args.h.now) (types_at c.args.s.now.types c.args.ts.now))) Clash) (sym c.in-Class.is) (class-outside (seen c.args.s.now.types c.args.s.now.slots.items) c.in-Class.class (head_of c.args.h.now) (map (type_at c.args.s.now.types) c.args.ts.now) _ refl (all-length c.args.s.now.types c.args.ts.now ∙ e) ne)
