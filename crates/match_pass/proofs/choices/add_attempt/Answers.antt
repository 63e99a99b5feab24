use Rattle.std.proofs.Common.{ap, map, ◌++◌, ◌∷◌, [], ◌∙◌}
use Rattle.std.proofs.lemmas.List.{map-append}
use Rattle.plain_tree.specs.TreeOf.{tree_of}
use Rattle.general_bindings.specs.of_match_types.Views.{reading}
use Rattle.match_pass.proofs.choices.add_attempt.Goals as goal

pub returns : goal.returns
returns c = λ v.
    let before = c.args.attempts.now.items in
    ap (map (tree_of (reading v))) c.in_ok-push.ensures.items
    ∙ map-append (tree_of (reading v)) before (c.in_ok-attempt.attempt ∷ [])
    ∙ ap (λ x. map (tree_of (reading v)) before ++ x ∷ []) (c.in_ok-attempt.ensures v)
