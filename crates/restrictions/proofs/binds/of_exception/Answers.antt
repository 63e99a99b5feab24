use Rattle.std.proofs.Common.{sym, ap, ap₂, ◌++◌, ◌∙◌}
use Rattle.core_rules.specs.Restrictions.{unless}
use Rattle.restrictions.specs.Nodes.{ex_bind_places}
use Rattle.restrictions.proofs.Standing.{adds-both, adds-for, if-ok, stand-are}
use Rattle.restrictions.proofs.TyNodes.{some-is}
use Rattle.restrictions.proofs.binds.of_exception.Goals as goal

pub returns-in_ok-of_some-in-New : goal.returns-in_ok-of_some-in-New
returns-in_ok-of_some-in-New c =
    let all = ap₂ (λ a b. a ++ unless b c.in-New.place) (sym (some-is c.in-New.ty)) c.may_construct.ensures in
    if-ok c.find_unless.result
    (λ u k. adds-both c.args.found.now.items _ _ _ _ _ c.in_ok-of_some-in-New.ensures k (stand-are _ _ (all ∙ ap ex_bind_places (sym c.in-New.is)))) c.find_unless.ensures

pub returns-in-Same : goal.returns-in-Same
returns-in-Same c =
    if-ok c.find_unless-in-Same.result
    (λ u k. adds-for c.args.found.now.items _ _ _ (stand-are _ _ (ap (λ b. unless b c.in-Same.place) c.may_construct-in-Same.ensures ∙ ap ex_bind_places (sym c.in-Same.is))) k) c.find_unless-in-Same.ensures
