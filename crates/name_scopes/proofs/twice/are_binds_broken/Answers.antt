use Rattle.std.proofs.Common.{◌++◌, map}
use Rattle.sml_tree.specs.TreeOf.{bind_of, binds_of}
use Rattle.name_scopes.specs.Patterns.{binds_vids, rec_vids}
use Rattle.name_scopes.proofs.Once.{added-kept, added-twice, twice-broken}
use Rattle.name_scopes.proofs.Pushing.{added-both, if-ok}
use Rattle.name_scopes.proofs.twice.are_binds_broken.Goals as goal

pub returns-then-has_kept : goal.returns-then-has_kept
returns-then-has_kept c u e k =
    let vs = binds_vids e (binds_of (map bind_of c.args.binds.now)) in
    let ws = rec_vids (binds_of (map bind_of c.args.recs.now)) in
    added-kept c.new-bound.result.items c.push_recs.new.vids.items c.deref.result.now vs ws c.new-bound.ensures.items c.deref.ensures.value c.in_ok-push_recs.ensures
    (c.has_kept.ensures c.if-has_kept.true)

pub returns : goal.returns
returns c =
    if-ok c.is_twice.result
    (λ b h t e k.
    let vs = binds_vids e (binds_of (map bind_of c.args.binds.now)) in
    let ws = rec_vids (binds_of (map bind_of c.args.recs.now)) in
    twice-broken vs ws
    (added-twice c.new-all.result.items c.push_recs-2.new.vids.items c.deref-2.result.now (vs ++ ws) c.new-all.ensures.items c.deref-2.ensures.value
    (added-both c.new-all.result.items c.push_binds.new.vids.items c.push_recs-2.new.vids.items vs ws (c.in_ok-push_binds.ensures e k) c.in_ok-push_recs-2.ensures) (h t)))
    c.is_twice.ensures
