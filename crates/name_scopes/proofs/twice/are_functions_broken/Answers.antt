use Rattle.std.proofs.Common.{[], map}
use Rattle.sml_tree.specs.Derived.{function_binds}
use Rattle.sml_tree.specs.TreeOf.{function_of}
use Rattle.name_scopes.specs.Patterns.{rec_vids}
use Rattle.name_scopes.proofs.Once.{added-kept, added-twice, twice-broken}
use Rattle.name_scopes.proofs.Pushing.{if-ok}
use Rattle.name_scopes.proofs.twice.are_functions_broken.Goals as goal

pub returns-then-has_kept : goal.returns-then-has_kept
returns-then-has_kept c u =
    let ws = rec_vids (function_binds (map function_of c.args.functions.now)) in
    added-kept c.new-bound.result.items c.push_functions.new.vids.items c.deref.result.now [] ws c.new-bound.ensures.items c.deref.ensures.value c.in_ok-push_functions.ensures
    (c.has_kept.ensures c.if-has_kept.true)

pub returns : goal.returns
returns c =
    let ws = rec_vids (function_binds (map function_of c.args.functions.now)) in
    if-ok c.is_twice.result
    (λ b h t. twice-broken [] ws
    (added-twice c.new-bound.result.items c.push_functions.new.vids.items c.deref-2.result.now ws c.new-bound.ensures.items c.deref-2.ensures.value c.in_ok-push_functions.ensures (h t)))
    c.is_twice.ensures
