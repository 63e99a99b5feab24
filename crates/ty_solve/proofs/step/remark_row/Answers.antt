use Rattle.std.proofs.Common.{ℕ, false, length, List, None, Some, refl, sym, subst}
use Rattle.ty_table.specs.of_ty_core.Types.{var}
use Rattle.ty_table.specs.of_ty_core.declared.mark.Mark.{Mark}
use Rattle.ty_table.specs.TypeAt.{types_at}
use Rattle.ty_solve.specs.SlotsOf.{entries, tasks_of, row_in}
use Rattle.ty_solve.specs.Said.{said}
use Rattle.ty_solve.specs.Task.{Admit, Further}
use Rattle.ty_solve.specs.Tasks.{Steps, RefusesTask}
use Rattle.ty_solve.specs.Parts.{AdmitParts, RefusesParts}
use Rattle.ty_solve.specs.declared.refused.UnifyRefused.TheVariants.{Clash}
use Rattle.ty_solve.proofs.RowArms.{any-steps, row-class, row-further, row-flag}
use Rattle.ty_solve.proofs.RowResults.{flag-steps, flag-refused}
use Rattle.ty_solve.proofs.step.remark_row.Goals as goal

pub returns-in-Any-clause-steps : goal.returns-in-Any-clause-steps
returns-in-Any-clause-steps c =
    let s = c.args.s.now in
    let n = length (entries s.types s.slots.items) in
    let l = tasks_of s.types c.args.tasks.now.items in
    subst (λ (k : Mark). Steps n (said s) s.acyclic.0 l (Admit k (var c.args.x)) l None) (sym c.in-Any.is) (any-steps n (said s) s.acyclic.0 l (var c.args.x))

pub returns-in-Class-clause-cause : goal.returns-in-Class-clause-cause
returns-in-Class-clause-cause c = subst (λ (k : Mark). RefusesTask (said c.args.s.now) (Admit k (var c.args.x)) Clash) (sym c.in-Class.is) (row-class (said c.args.s.now) c.args.x _ _ _ _ (var c.args.x) refl c.requires)

pub returns-then-not-row-clause-steps : goal.returns-then-not-row-clause-steps
returns-then-not-row-clause-steps c =
    let s = c.args.s.now in
    let n = length (entries s.types s.slots.items) in
    let l = tasks_of s.types c.args.tasks.now.items in
    subst (λ (k : Mark). Steps n (said s) s.acyclic.0 l (Admit k (var c.args.x)) l (Some (Further c.args.x))) (sym c.in-Equality.is)
    (row-further n (said s) s.acyclic.0 l c.args.x _ _ (var c.args.x) refl (row-flag _ _ false _ _ c.requires c.if-not-row.true))

pub returns-in-Ok-clause-steps : goal.returns-in-Ok-clause-steps
returns-in-Ok-clause-steps c =
    let s = c.args.s.now in
    let n = length (entries s.types s.slots.items) in
    let old = tasks_of s.types c.args.tasks.now.items in
    let new = tasks_of s.types c.admit_all.new.tasks.items in
    subst (λ (k : Mark). Steps n (said s) s.acyclic.0 old (Admit k (var c.args.x)) new None) (sym c.in-Equality.is)
    (flag-steps s.types s.slots.items s.acyclic.0 s.acyclic.1 s.below s.inhabited c.args.x (row_in s.types c.args.row.now) c.requires old new c.if-not-row.false (subst (λ (x : List ℕ). AdmitParts (length s.slots.items) (said s) s.acyclic.0 old new (types_at s.types x)) c.deref.ensures.value c.in-Ok.ensures.parts))

pub returns-in-Err-clause-cause : goal.returns-in-Err-clause-cause
returns-in-Err-clause-cause c =
    let s = c.args.s.now in
    subst (λ (k : Mark). RefusesTask (said s) (Admit k (var c.args.x)) c.in-Err.refused) (sym c.in-Equality.is)
    (flag-refused s.types s.slots.items s.acyclic.0 s.acyclic.1 s.below s.inhabited c.args.x (row_in s.types c.args.row.now) c.requires c.if-not-row.false c.in-Err.refused (subst (λ (x : List ℕ). RefusesParts (said s) (types_at s.types x) c.in-Err.refused) c.deref.ensures.value c.in-Err.ensures.cause))
