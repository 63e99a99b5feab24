use Rattle.std.proofs.Common.{◌≡◌, not, ◌&&◌, nat_eq, sym, ap, ap₂, ◌∙◌}
use Rattle.std.specs.List.{list_all}
use Rattle.core_rules.specs.Restrictions.{distinct}
use Rattle.core_rules.specs.Words.{is_in}
use Rattle.restrictions.specs.Found.{names_in}
use Rattle.restrictions.proofs.Noting.{all-part}
use Rattle.restrictions.proofs.scope.are_new.Goals as goal
use Rattle.restrictions.proofs.scope.are_new.Goals.{then-once, else-once}

pub returns : goal.returns
returns c =
    let one : c.in_ok-once.once ≡ distinct nat_eq c.in_ok-keys.keys.items = c.in_ok-once.ensures ∙ ap (distinct nat_eq) c.deref.ensures.value in
    let two = c.are_apart-apart.ensures ∙ ap (list_all (λ k. not (is_in nat_eq k (names_in c.args.around.now)))) c.deref-2.ensures.value in
    let whole = ap₂ (λ a b. a && b) (one ∙ ap (distinct nat_eq) c.in_ok-keys.ensures)
    (two ∙ ap (list_all (λ k. not (is_in nat_eq k (names_in c.args.around.now)))) c.in_ok-keys.ensures ∙ all-part (λ k. not (is_in nat_eq k (names_in c.args.around.now))) (λ a. a.name) c.args.tyvars.now) in
    elim c.if-once.branch [
      | then-once w ↦ w.result-is ∙ sym (ap (λ a. a && c.are_apart-apart.result) w.if-once.true) ∙ whole
      | else-once w ↦ w.result-is ∙ w.if-once.false ∙ sym (ap (λ a. a && c.are_apart-apart.result) w.if-once.false) ∙ whole
    ]
