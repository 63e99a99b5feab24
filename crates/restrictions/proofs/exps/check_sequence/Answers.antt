use Rattle.std.proofs.Common.{nat_eq, ap, ◌++◌, ◌∙◌}
use Rattle.std.specs.Prelude.{flat_map}
use Rattle.core_rules.specs.Restrictions.{distinct, unless}
use Rattle.restrictions.specs.Nodes.{named_types}
use Rattle.restrictions.proofs.Standing.{adds-for, if-ok, stand-are}
use Rattle.restrictions.proofs.exps.check_sequence.Goals as goal

pub returns : goal.returns
returns c =
    let e = c.in_ok-once.ensures ∙ ap (distinct nat_eq) (c.deref.ensures.value ∙ c.in_ok-push_all_named.ensures ∙ ap (λ l. l ++ flat_map named_types c.args.decs.now) c.new-keys.ensures.items) in
    if-ok c.find_unless.result (λ u k. adds-for c.args.found.now.items _ _ _ (stand-are _ _ (ap (λ b. unless b c.args.place) e)) k) c.find_unless.ensures
