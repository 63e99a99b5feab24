use Rattle.std.proofs.Common.{sym}
use Rattle.sml_tree.specs.TreeOf.{pat_of}
use Rattle.name_scopes.specs.Patterns.{pat_vids}
use Rattle.name_scopes.proofs.BindVids.{binds-have}
use Rattle.name_scopes.proofs.Pushing.{added-for, added-last}
use Rattle.name_scopes.proofs.vids.push_binds.Goals as goal

pub returns : goal.returns
returns c e v =
    added-for c.args.vids.now.items c.loop-i.vids.items _ _ (sym (binds-have e c.args.binds.now))
    (added-last (λ b. pat_vids e (pat_of b.pat)) c.args.binds.now c.loop-i.i c.args.vids.now.items c.loop-i.vids.items c.loop-i-test.false (c.loop-i.invariant e v))
