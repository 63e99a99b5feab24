use Rattle.std.proofs.Common.{◌≡◌, ◌≤◌, ◌++◌, ◌∷◌, [], ℕ, true, length, refl, sym, subst, arith}
use Rattle.ty_table.specs.TypeAt.{types_at}
use Rattle.ty_solve.specs.Substitution.{are_below}
use Rattle.ty_solve.specs.Forces.{Problem, IsForced}
use Rattle.ty_solve.specs.Said.{said}
use Rattle.ty_solve.specs.Limits.{limit_at, LimitedAt}
use Rattle.ty_solve.specs.Lowering.{together, Lowering, LowersType, RefusesIn, RefusesLimits}
use Rattle.ty_solve.specs.declared.limit.Limit.{Limit}
use Rattle.ty_solve.proofs.Slots.{seen-past}
use Rattle.ty_solve.proofs.Falling.{limit-get}
use Rattle.ty_solve.proofs.Lowered.{under-open, under-bound, refuses-under, under-all, under-below, under-whole}
use Rattle.ty_solve.proofs.Turns.{ok-then, err-then}
use Rattle.ty_solve.proofs.lower.lower_under.Goals as goal

pub returns-then-v-len-clause-lowers : goal.returns-then-v-len-clause-lowers
returns-then-v-len-clause-lowers c =
    let s = c.args.s.now in
    let le : length s.slots.items ≤ c.args.v = omega (arith, c.requires, c.if-v-len.true, c.args.limits.now.ok.0) in
    λ p b i g. under-open p (said s) i b c.args.limits.now.items c.args.limits.now.items c.args.noted.now.items _ [] c.args.v refl g (subst (LimitedAt (limit_at c.args.limits.now.items) (limit_at c.args.limits.now.items c.args.v)) (sym (seen-past s.types s.slots.items c.args.v le)) tt)

pub lower_types-requires : goal.lower_types-requires
lower_types-requires c =
    let s = c.args.s.now in
    subst (λ n. are_below n (types_at s.types c.look_under.new.pending.items) ≡ true) (sym c.requires) (under-below s.types (said s) c.args.v (length s.slots.items) _ _ c.new-parts.ensures.items c.in_ok-look_under.ensures (s.below c.args.v))

pub returns-clause-lowers : goal.returns-clause-lowers
returns-clause-lowers c =
    let s = c.args.s.now in
    let ks = c.look_under.new.pending.items in
    let us = types_at s.types ks in
    let old = c.args.limits.now.items in
    let new = c.lower_types.new.limits.items in
    let rest = c.args.noted.now.items in
    let now = c.lower_types.new.noted.items in
    let q = limit-get old c.args.v _ (omega (arith, c.if-v-len.false, c.args.limits.now.ok.0)) c.index-to.ensures in
    ok-then
    (LowersType (together us) c.index-to.result.now old new rest now)
    ((p : Problem) (b : ℕ → Limit) → IsForced p (said s) → Lowering p (said s) b (limit_at old) (rest ++ c.args.v ∷ []) → Lowering p (said s) b (limit_at new) now)
    c.lower_types.result
    (λ h p b i g. under-bound p (said s) i b old new rest _ now c.args.v refl g us (under-all s.types (said s) c.args.v _ ks c.new-parts.ensures.items c.in_ok-look_under.ensures (s.inhabited c.args.v)) (under-whole s.types (said s) c.args.v (limit_at new) (limit_at new c.args.v) _ ks c.new-parts.ensures.items c.in_ok-look_under.ensures) (subst (λ k. LowersType (together us) k old new rest now) (sym q) h))
    c.lower_types.ensures.lowers

pub returns-clause-cause : goal.returns-clause-cause
returns-clause-cause c =
    let s = c.args.s.now in
    let ks = c.look_under.new.pending.items in
    let us = types_at s.types ks in
    let old = c.args.limits.now.items in
    let rest = c.args.noted.now.items in
    let q = limit-get old c.args.v _ (omega (arith, c.if-v-len.false, c.args.limits.now.ok.0)) c.index-to.ensures in
    err-then
    (RefusesIn (together us) c.index-to.result.now)
    (λ e. (p : Problem) (b : ℕ → Limit) → IsForced p (said s) → Lowering p (said s) b (limit_at old) (rest ++ c.args.v ∷ []) → RefusesLimits p (said s) b e)
    c.lower_types.result
    (λ e h p b i g. refuses-under p (said s) i b old old rest _ [] c.args.v refl g us (under-all s.types (said s) c.args.v _ ks c.new-parts.ensures.items c.in_ok-look_under.ensures (s.inhabited c.args.v)) e (subst (λ k. RefusesIn (together us) k e) (sym q) h))
    c.lower_types.ensures.cause
