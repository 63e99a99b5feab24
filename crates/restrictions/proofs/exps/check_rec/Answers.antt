use Rattle.sml_tree.specs.TreeOf.{pat_of}
use Rattle.restrictions.proofs.Standing.{adds-for, if-ok, stand-are}
use Rattle.restrictions.proofs.exps.check_rec.Goals as goal

pub returns : goal.returns
returns c =
    if-ok c.find_place.result (λ u k. adds-for c.args.found.now.items _ _ _ (stand-are _ _ (c.begin_unless_fn.ensures c.args.bind.now.place (pat_of c.args.bind.now.pat))) k) c.find_place.ensures
