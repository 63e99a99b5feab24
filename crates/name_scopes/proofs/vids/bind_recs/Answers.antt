use Rattle.std.proofs.Common.{map}
use Rattle.sml_tree.specs.TreeOf.{bind_of, binds_of}
use Rattle.core_rules.specs.Unbound.{rec_names}
use Rattle.name_scopes.specs.Patterns.{rec_vids}
use Rattle.name_scopes.proofs.Pushing.{if-ok, variables-brought}
use Rattle.name_scopes.proofs.Variables.{recs-written}
use Rattle.name_scopes.proofs.vids.bind_recs.Goals as goal

pub returns : goal.returns
returns c =
    let bs = binds_of (map bind_of c.args.binds.now) in
    if-ok c.bind_vids.result
    (λ u h. variables-brought c.args.scope.now c.bind_vids.new.scope c.new-vids.result.items c.push_recs.new.vids.items c.deref.result.now (λ e. rec_vids bs) (λ e. rec_names bs)
    c.new-vids.ensures.items c.deref.ensures.value (λ e v. c.in_ok-push_recs.ensures) (λ e. recs-written bs) h)
    c.bind_vids.ensures
