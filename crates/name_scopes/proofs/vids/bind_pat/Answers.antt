use Rattle.sml_tree.specs.TreeOf.{pat_of}
use Rattle.core_rules.specs.Unbound.{pat_names}
use Rattle.name_scopes.specs.Patterns.{pat_vids}
use Rattle.name_scopes.proofs.Pushing.{if-ok, variables-brought}
use Rattle.name_scopes.proofs.Variables.{names-written}
use Rattle.name_scopes.proofs.vids.bind_pat.Goals as goal

pub returns : goal.returns
returns c =
    let a = pat_of c.args.pat.now in
    if-ok c.bind_vids.result
    (λ u h. variables-brought c.args.scope.now c.bind_vids.new.scope c.new-vids.result.items c.push_vids.new.vids.items c.deref.result.now (λ e. pat_vids e a) (λ e. pat_names e a)
    c.new-vids.ensures.items c.deref.ensures.value c.in_ok-push_vids.ensures (λ e. names-written e a) h)
    c.bind_vids.ensures
