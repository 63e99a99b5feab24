use Rattle.std.proofs.Common.{◌∙◌, ◌≡◌, ◌≢◌, ◌<◌, ℕ, Bool, true, length, subst, refl, rules}
use Rattle.ty_table.specs.of_ty_core.Types.{Typ, var}
use Rattle.ty_table.specs.of_ty_core.Marks.{Allows, IsMeet, is_inhabited, rank_of}
use Rattle.ty_table.specs.of_ty_core.declared.mark.Mark.{Mark}
use Rattle.ty_solve.specs.SlotsOf.{seen, entries}
use Rattle.ty_solve.proofs.Setting.{at-inhabited}
use Rattle.ty_solve.proofs.StepArms.{remark-clash, remark-steps, remark-nothing}
use Rattle.ty_solve.proofs.step.remark.Goals as goal

pub returns-in-None-clause-cause : goal.returns-in-None-clause-cause
returns-in-None-clause-cause c = remark-clash (seen c.args.s.now.types c.args.s.now.slots.items) c.args.x c.args.mark (var c.args.x) refl c.requires (subst (λ (j : Mark). (m : ℕ → Bool) (t : Typ) → Allows j m t → Allows c.args.mark m t → ⊥) c.mark_of-old.ensures c.in-None.ensures.nothing_in_common)

pub returns-then-eq-clause-steps : goal.returns-then-eq-clause-steps
returns-then-eq-clause-steps c = λ l. remark-nothing (length (entries c.args.s.now.types c.args.s.now.slots.items)) (seen c.args.s.now.types c.args.s.now.slots.items) c.args.s.now.acyclic.0 l c.args.x c.args.mark c.in-Some.next (var c.args.x) refl c.requires (subst (λ (j : Mark). IsMeet j c.args.mark c.in-Some.next) c.mark_of-old.ensures c.in-Some.ensures.meets) (let e : c.in-Some.next ≡ c.mark_of-old.result = search rules in e ∙ c.mark_of-old.ensures)

pub returns-else-eq-clause-steps : goal.returns-else-eq-clause-steps
returns-else-eq-clause-steps c =
    let ne : (c.in-Some.next ≡ c.mark_of-old.result → ⊥) = search rules in
    λ l. remark-steps (length (entries c.args.s.now.types c.args.s.now.slots.items)) (seen c.args.s.now.types c.args.s.now.slots.items) c.args.s.now.acyclic.0 l c.args.x c.args.mark c.in-Some.next (var c.args.x) refl c.requires
    (subst (λ (j : Mark). IsMeet j c.args.mark c.in-Some.next) c.mark_of-old.ensures c.in-Some.ensures.meets)
    (subst (λ (j : Mark). c.in-Some.next ≡ j → ⊥) c.mark_of-old.ensures ne)
    (subst (λ (j : Mark). c.in-Some.next ≢ j → rank_of c.in-Some.next < rank_of j) c.mark_of-old.ensures c.in-Some.ensures.lower)
    (at-inhabited (seen c.args.s.now.types c.args.s.now.slots.items) c.args.s.now.inhabited c.args.x c.requires)
    (subst (λ (j : Mark). is_inhabited j ≡ true → is_inhabited c.args.mark ≡ true → is_inhabited c.in-Some.next ≡ true) c.mark_of-old.ensures c.in-Some.ensures.inhabited)
