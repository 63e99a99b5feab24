use Rattle.sml_tree.specs.TreeOf.{pat_of}
use Rattle.name_scopes.specs.Patterns.{pat_vids}
use Rattle.name_scopes.proofs.Once.{added-twice}
use Rattle.name_scopes.proofs.Pushing.{if-ok}
use Rattle.name_scopes.proofs.twice.is_pat_twice.Goals as goal

pub returns : goal.returns
returns c =
    if-ok c.is_twice.result
    (λ b h t e k. added-twice c.new-vids.result.items c.push_vids.new.vids.items c.deref.result.now (pat_vids e (pat_of c.args.pat.now)) c.new-vids.ensures.items c.deref.ensures.value
    (c.in_ok-push_vids.ensures e k) (h t))
    c.is_twice.ensures
