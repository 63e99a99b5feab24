use Rattle.std.proofs.Common.{ap, ap₂, subst, ◌∙◌}
use Rattle.core_rules.specs.Restrictions.{are_among, no_repetition}
use Rattle.restrictions.specs.Found.{Adds}
use Rattle.restrictions.specs.Written.{HasCons, right_places}
use Rattle.restrictions.proofs.Declared.{data-adds}
use Rattle.restrictions.proofs.Standing.{if-ok}
use Rattle.restrictions.proofs.datas.of_data.Goals as goal

pub returns : goal.returns
returns c =
    let old = c.args.found.now.items in
    let now = c.of_constructors.new.found.items in
    let next = c.find_unless.new.found.items in
    let new = c.check_right_side.new.found.items in
    let before = c.new-occurring.result.items in
    let occurring = c.of_constructors.new.occurring.items in
    let among = c.in_ok-among.among in
    if-ok c.check_right_side.result
    (λ u k bs r.
    data-adds bs c.args.bind.now old now next new before occurring c.in_ok-once.once among c.new-occurring.ensures.items
    (subst (λ l. HasCons bs l old now before occurring) c.deref.ensures.value (c.in_ok-of_constructors.ensures bs r))
    (c.in_ok-once.ensures ∙ ap no_repetition c.deref-2.ensures.value)
    (c.in_ok-among.ensures ∙ ap₂ are_among c.deref-3.ensures.value c.deref-4.ensures.value) c.in_ok-find_unless.ensures
    (subst (λ l. Adds next new (right_places among l)) c.deref-5.ensures.value k))
    c.check_right_side.ensures
