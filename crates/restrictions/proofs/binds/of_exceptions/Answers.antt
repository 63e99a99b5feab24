use Rattle.std.proofs.Common.{ap, ◌++◌, ◌∙◌}
use Rattle.std.specs.Prelude.{flat_map}
use Rattle.core_rules.specs.Restrictions.{unless}
use Rattle.restrictions.specs.Nodes.{ex_bind_places}
use Rattle.restrictions.proofs.ByKeys.{exceptions-once}
use Rattle.restrictions.proofs.Standing.{adds-both, if-ok, stand-are}
use Rattle.restrictions.proofs.binds.of_exceptions.Goals as goal

pub returns : goal.returns
returns c =
    if-ok c.find_unless.result
    (λ u k.
    adds-both c.args.found.now.items _ _ _ _ _ c.in_ok-of_exception_binds.ensures k
    (stand-are _ _ (ap (λ z. flat_map ex_bind_places c.args.binds.now ++ unless z c.args.place) (c.in_ok-once.ensures ∙ exceptions-once c.args.binds.now))))
    c.find_unless.ensures
