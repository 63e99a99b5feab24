use Rattle.std.proofs.Common.{[], List, refl, sym, ap, subst, ◌∙◌}
use Rattle.ty_table.specs.of_ty_core.Types.{Typ}
use Rattle.ty_table.specs.TypeAt.{type_at}
use Rattle.ty_solve.specs.SlotsOf.{seen}
use Rattle.ty_solve.specs.Said.{said}
use Rattle.ty_solve.specs.Forces.{Problem, IsForced}
use Rattle.ty_solve.specs.Solve.{problem, undo, IsMostGeneral, IsSmall, LeavesRest}
use Rattle.ty_solve.specs.Limits.{limit_at, IsCauseWithin}
use Rattle.ty_solve.specs.Lowering.{Lowering, IsSettled, RefusesLimits, variables}
use Rattle.ty_solve.proofs.Lowered.{begins-in, forced-in, lowering-ends, limits-refuse}
use Rattle.ty_solve.proofs.Turns.{ok-all, ok-then, err-then}
use Rattle.ty_solve.proofs.solver.within.Goals as goal

pub returns-in-Ok-clause-general : goal.returns-in-Ok-clause-general
returns-in-Ok-clause-general c = ok-all _ c.lower.result (subst (λ (x : List Typ). IsMostGeneral (said c.args.s.now) (seen x c.attempt.new.s.slots.items) (type_at c.args.s.now.types c.args.a) (type_at c.args.s.now.types c.args.b)) (sym c.in-Ok.ensures.types) c.in-Ok.ensures.general)

pub returns-in-Ok-clause-small : goal.returns-in-Ok-clause-small
returns-in-Ok-clause-small c = ok-all _ c.lower.result (subst (λ (x : List Typ). IsSmall (seen x c.attempt.new.s.slots.items) (type_at c.args.s.now.types c.args.a)) (sym c.in-Ok.ensures.types) c.in-Ok.ensures.small)

pub returns-in-Ok-clause-rest : goal.returns-in-Ok-clause-rest
returns-in-Ok-clause-rest c = ok-all (LeavesRest (said c.args.s.now) (said c.attempt.new.s) (type_at c.args.s.now.types c.args.a) (type_at c.args.s.now.types c.args.b)) c.lower.result (λ v. (forced-in (problem (said c.args.s.now) (type_at c.args.s.now.types c.args.a) (type_at c.args.s.now.types c.args.b)) c.args.s.now.types c.attempt.new.s.types c.attempt.new.s.slots.items c.in-Ok.ensures.types c.in-Ok.ensures.forced v).1)

pub returns-in-Ok-clause-settled : goal.returns-in-Ok-clause-settled
returns-in-Ok-clause-settled c =
    let s = c.args.s.now in
    let t = c.attempt.new.s in
    let p = problem (said s) (type_at s.types c.args.a) (type_at s.types c.args.b) in
    let b = limit_at c.args.limits.now.items in
    let f = forced-in p s.types t.types t.slots.items c.in-Ok.ensures.types c.in-Ok.ensures.forced in
    let g = begins-in p s.types t.types c.attempt.new.trail.items c.as_slice.result.now s.slots.items t.slots.items b refl c.in-Ok.ensures.types c.as_slice.ensures.value (c.in-Ok.ensures.undone ∙ ap (λ d. undo d s.slots.items) c.requires.no_trail) c.requires.limited c.in-Ok.ensures.forced in
    ok-then
    ((p : Problem) → IsForced p (said t) → Lowering p (said t) b b (variables c.as_slice.result.now) → Lowering p (said t) b (limit_at c.lower.new.limits.items) [])
    (IsSettled (said s) (said t) b (limit_at c.lower.new.limits.items) (type_at s.types c.args.a) (type_at s.types c.args.b))
    c.lower.result
    (λ h. lowering-ends (said s) (said t) (type_at s.types c.args.a) (type_at s.types c.args.b) b (limit_at c.lower.new.limits.items) (h p f g))
    c.lower.ensures.lowers

pub returns-in-Ok-clause-cause : goal.returns-in-Ok-clause-cause
returns-in-Ok-clause-cause c =
    let s = c.args.s.now in
    let t = c.attempt.new.s in
    let p = problem (said s) (type_at s.types c.args.a) (type_at s.types c.args.b) in
    let b = limit_at c.args.limits.now.items in
    let f = forced-in p s.types t.types t.slots.items c.in-Ok.ensures.types c.in-Ok.ensures.forced in
    let g = begins-in p s.types t.types c.attempt.new.trail.items c.as_slice.result.now s.slots.items t.slots.items b refl c.in-Ok.ensures.types c.as_slice.ensures.value (c.in-Ok.ensures.undone ∙ ap (λ d. undo d s.slots.items) c.requires.no_trail) c.requires.limited c.in-Ok.ensures.forced in
    let m = subst (λ (x : List Typ). IsMostGeneral (said s) (seen x t.slots.items) (type_at s.types c.args.a) (type_at s.types c.args.b)) (sym c.in-Ok.ensures.types) c.in-Ok.ensures.general in
    err-then
    (λ e. (p : Problem) → IsForced p (said t) → Lowering p (said t) b b (variables c.as_slice.result.now) → RefusesLimits p (said t) b e)
    (IsCauseWithin (said s) b (type_at s.types c.args.a) (type_at s.types c.args.b))
    c.lower.result
    (λ e h. limits-refuse (said s) (said t) b (type_at s.types c.args.a) (type_at s.types c.args.b) e m (h p f g))
    c.lower.ensures.cause
