use Rattle.std.proofs.Common.{map, sym}
use Rattle.sml_tree.specs.Derived.{one_or_tuple_pat}
use Rattle.sml_tree.specs.TreeOf.{pat_of}
use Rattle.core_rules.specs.Unbound.{pat_names}
use Rattle.name_scopes.specs.Patterns.{pat_vids}
use Rattle.name_scopes.proofs.PatVids.{vids-one-or-tuple}
use Rattle.name_scopes.proofs.Pushing.{added-for, if-ok, variables-brought}
use Rattle.name_scopes.proofs.Variables.{names-written}
use Rattle.name_scopes.proofs.vids.bind_pats.Goals as goal

pub returns : goal.returns
returns c =
    if-ok c.bind_vids.result
    (λ u h place.
    let a = one_or_tuple_pat place (map pat_of c.args.pats.now) in
    variables-brought c.args.scope.now c.bind_vids.new.scope c.new-vids.result.items c.push_pats.new.vids.items c.deref.result.now (λ e. pat_vids e a) (λ e. pat_names e a)
    c.new-vids.ensures.items c.deref.ensures.value
    (λ e v. added-for c.new-vids.result.items c.push_pats.new.vids.items _ _ (sym (vids-one-or-tuple e place c.args.pats.now)) (c.in_ok-push_pats.ensures e v))
    (λ e. names-written e a) h)
    c.bind_vids.ensures
