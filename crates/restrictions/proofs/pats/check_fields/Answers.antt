use Rattle.std.proofs.Common.{nat_eq, ap, ◌∙◌}
use Rattle.core_rules.specs.Restrictions.{distinct, unless}
use Rattle.restrictions.proofs.ByKeys.{by-labels}
use Rattle.restrictions.proofs.Standing.{adds-for, if-ok, stand-are}
use Rattle.restrictions.proofs.pats.check_fields.Goals as goal

pub returns : goal.returns
returns c =
    let e = c.in_ok-once.ensures ∙ ap (distinct nat_eq) (c.deref.ensures.value ∙ c.in_ok-keys.ensures) ∙ by-labels (λ f. f.label) c.args.fields.now in
    if-ok c.find_unless.result (λ u k. adds-for c.args.found.now.items _ _ _ (stand-are _ _ (ap (λ b. unless b c.args.place) e)) k) c.find_unless.ensures
