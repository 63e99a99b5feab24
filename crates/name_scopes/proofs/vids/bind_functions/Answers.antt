use Rattle.std.proofs.Common.{map}
use Rattle.sml_tree.specs.Derived.{function_binds}
use Rattle.sml_tree.specs.TreeOf.{function_of}
use Rattle.core_rules.specs.Unbound.{rec_names}
use Rattle.name_scopes.specs.Patterns.{rec_vids}
use Rattle.name_scopes.proofs.Pushing.{if-ok, variables-brought}
use Rattle.name_scopes.proofs.Variables.{recs-written}
use Rattle.name_scopes.proofs.vids.bind_functions.Goals as goal

pub returns : goal.returns
returns c =
    let bs = function_binds (map function_of c.args.functions.now) in
    if-ok c.bind_vids.result
    (λ u h. variables-brought c.args.scope.now c.bind_vids.new.scope c.new-vids.result.items c.push_functions.new.vids.items c.deref.result.now (λ e. rec_vids bs) (λ e. rec_names bs)
    c.new-vids.ensures.items c.deref.ensures.value (λ e v. c.in_ok-push_functions.ensures) (λ e. recs-written bs) h)
    c.bind_vids.ensures
