use Rattle.std.proofs.Common.{◌≡◌, refl, set, sym, ap, ◌∙◌, rules}
use Rattle.ty_solve.specs.Limits.{narrower}
use Rattle.ty_solve.specs.Lowering.{LowersOne}
use Rattle.ty_solve.proofs.Falling.{lowered-back, limit-get, same-narrower}
use Rattle.ty_solve.proofs.lower.lower_variable.Goals as goal

pub returns-then-eq-clause-lowers : goal.returns-then-eq-clause-lowers
returns-then-eq-clause-lowers c =
    let e : c.narrower-next.result ≡ c.index.result.now = search rules in
    let q = limit-get c.args.limits.now.items c.args.y _ c.requires c.index.ensures in
    LowersOne.stays refl refl (same-narrower _ _ (ap (λ k. narrower k c.args.to) q ∙ sym c.narrower-next.ensures ∙ e ∙ sym q))

pub returns-clause-undone : goal.returns-clause-undone
returns-clause-undone c = lowered-back c.args.limits.now.items _ c.args.kept.now.items _ c.args.y _ _ c.index.ensures refl c.in_ok-push-2.ensures.items

pub returns-clause-lowers : goal.returns-clause-lowers
returns-clause-lowers c =
    let ne : (c.narrower-next.result ≡ c.index.result.now → ⊥) = search rules in
    let q = limit-get c.args.limits.now.items c.args.y _ c.requires c.index.ensures in
    LowersOne.falls (ap (set c.args.limits.now.items c.args.y) (c.narrower-next.ensures ∙ ap (λ k. narrower k c.args.to) (sym q))) c.in_ok-push.ensures.items (λ e. ne (c.narrower-next.ensures ∙ ap (λ k. narrower k c.args.to) (sym q) ∙ e ∙ q))
