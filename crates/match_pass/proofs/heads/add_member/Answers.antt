use Rattle.std.proofs.Common.{ap, map, ◌++◌, ◌∷◌, [], ◌∙◌}
use Rattle.std.proofs.lemmas.List.{map-append}
use Rattle.plain_tree.specs.TreeOf.{function_of}
use Rattle.general_bindings.specs.of_match_types.Views.{reading}
use Rattle.match_pass.proofs.heads.add_member.Goals as goal

pub returns-clause-more : goal.returns-clause-more
returns-clause-more c = λ v.
    let before = c.args.made.now.items in
    ap (map (function_of (reading v))) c.in_ok-push.ensures.items
    ∙ map-append (function_of (reading v)) before (c.member.result ∷ [])
    ∙ ap (λ x. map (function_of (reading v)) before ++ x ∷ []) (c.member.ensures v)
