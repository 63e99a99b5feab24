use Rattle.std.proofs.Common.{map}
use Rattle.sml_tree.specs.TreeOf.{bind_of}
use Rattle.elab_exps.proofs.Heading.{HeadsSoFar}
use Rattle.elab_exps.proofs.heads.reserve_recs.Given as goal

abbrev pub invariant-loop-i : goal.invariant-loop-i
invariant-loop-i l = HeadsSoFar l.fn.state l.context (map bind_of l.recs) l.i l.state l.heads.items

abbrev pub decreases-loop-i : goal.decreases-loop-i
decreases-loop-i l = l.i
