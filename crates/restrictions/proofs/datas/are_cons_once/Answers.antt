use Rattle.std.proofs.Common.{nat_eq, map, ap, ◌++◌, ◌∙◌}
use Rattle.std.specs.Prelude.{flat_map}
use Rattle.core_rules.specs.Restrictions.{distinct}
use Rattle.restrictions.specs.Keys.{con_key}
use Rattle.restrictions.proofs.Standing.{if-ok}
use Rattle.restrictions.proofs.datas.are_cons_once.Goals as goal

pub returns : goal.returns
returns c =
    if-ok c.are_once.result
    (λ b k. k ∙ ap (distinct nat_eq) (c.deref.ensures.value ∙ c.in_ok-push_all_cons.ensures ∙ ap (λ l. l ++ flat_map (λ d. map con_key d.cons.items) c.args.datas.now) c.new-keys.ensures.items))
    c.are_once.ensures
