use Rattle.sml_tree.specs.TreeOf.{long_id_at_of}
use Rattle.core_rules.specs.Eval.{long_structure_in}
use Rattle.core_rules.specs.Unbound.{structure_at}
use Rattle.name_scopes.proofs.Declaring.{at-unbound}
use Rattle.name_scopes.proofs.DecNodes.{opened-at}
use Rattle.name_scopes.proofs.FromEnd.{has-read}
use Rattle.name_scopes.proofs.Qualified.{structure-unbound}
use Rattle.name_scopes.proofs.datas.in_structures.Goals as goal

pub returns-then-is_none : goal.returns-then-is_none
returns-then-is_none c u e h =
    let x = c.index-longs-i.result in
    let p = long_structure_in e (long_id_at_of x) in
    opened-at c.args.sought.now e c.args.longs.now x (has-read c.args.longs.now c.loop-i.i x c.loop-i-test.true c.index-longs-i.is)
    (at-unbound c.args.sought.now p (structure_at x.place (long_id_at_of x).long) (c.if-is_at.ensures u) (structure-unbound c.find_structure.result p (c.find_structure.ensures e h) c.if-is_none.ensures))
