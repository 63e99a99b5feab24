use Rattle.std.proofs.Common.{nat_eq, map, ap, ◌++◌, ◌∙◌}
use Rattle.core_rules.specs.Restrictions.{distinct}
use Rattle.restrictions.proofs.Standing.{if-ok}
use Rattle.restrictions.proofs.datas.are_names_once.Goals as goal

pub returns : goal.returns
returns c =
    if-ok c.are_once.result
    (λ b k. k ∙ ap (distinct nat_eq) (c.deref.ensures.value ∙ c.in_ok-push_type_names.ensures
    ∙ ap (λ l. l ++ map (λ b. b.tycon) c.args.types.now) (c.in_ok-push_data_names.ensures ∙ ap (λ l. l ++ map (λ b. b.tycon) c.args.datas.now) c.new-keys.ensures.items)))
    c.are_once.ensures
