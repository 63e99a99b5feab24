use Rattle.std.proofs.Common.{nat_eq, ap, ◌∙◌}
use Rattle.core_rules.specs.Restrictions.{distinct}
use Rattle.restrictions.specs.Written.{unless_mark}
use Rattle.restrictions.proofs.Abbreviated.{alike-are, notes-for}
use Rattle.restrictions.proofs.ByKeys.{by-labels}
use Rattle.restrictions.proofs.Standing.{if-ok}
use Rattle.restrictions.proofs.written.check_fields.Goals as goal

pub returns : goal.returns
returns c =
    let e = c.in_ok-once.ensures ∙ ap (distinct nat_eq) (c.deref.ensures.value ∙ c.in_ok-keys.ensures) ∙ by-labels (λ f. f.label) c.args.fields.now in
    if-ok c.mark_unless.result (λ u k. notes-for c.args.marks.now.items _ _ _ (alike-are _ _ (ap (λ b. unless_mark b c.args.place) e)) k) c.mark_unless.ensures
