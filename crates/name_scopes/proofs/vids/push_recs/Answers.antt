use Rattle.std.proofs.Common.{sym}
use Rattle.sml_tree.specs.TreeOf.{pat_of}
use Rattle.name_scopes.specs.Patterns.{each_vids}
use Rattle.name_scopes.proofs.BindVids.{recs-have}
use Rattle.name_scopes.proofs.Pushing.{added-for, added-last}
use Rattle.name_scopes.proofs.vids.push_recs.Goals as goal

pub returns : goal.returns
returns c =
    added-for c.args.vids.now.items c.loop-i.vids.items _ _ (sym (recs-have c.args.binds.now))
    (added-last (λ b. each_vids (pat_of b.pat)) c.args.binds.now c.loop-i.i c.args.vids.now.items c.loop-i.vids.items c.loop-i-test.false c.loop-i.invariant)
