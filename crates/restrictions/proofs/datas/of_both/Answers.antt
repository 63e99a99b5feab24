use Rattle.std.proofs.Common.{◌++◌, map, ap}
use Rattle.sml_tree.specs.TreeOf.{type_bind_of}
use Rattle.core_rules.specs.Restrictions.{unless}
use Rattle.restrictions.specs.Written.{datas_places}
use Rattle.restrictions.proofs.Standing.{adds-both, if-ok, stand-are}
use Rattle.restrictions.proofs.datas.of_both.Goals as goal

pub returns : goal.returns
returns c =
    let bs = map type_bind_of c.args.types.now in
    if-ok c.find_unless.result
    (λ u k n.
    adds-both c.args.found.now.items _ _ _ _ _ (c.in_ok-of_declared.ensures bs (c.in_ok-within.ensures n)) k
    (stand-are _ _ (ap (λ b. datas_places bs c.args.place c.args.binds.now ++ unless b c.args.place) c.in_ok-once.ensures)))
    c.find_unless.ensures
